use Rattle.lx_lists.proofs.Imports.{◌∙◌, List, ℕ, refl, ap, line_of, unattempted, where_of_second, turn_answered}
use Rattle.lx_spec.proofs.ValidLines.{line_of-valid}
use Rattle.lx_lists.proofs.TwoAnswers.{answered_second}
use Rattle.lx_lists.proofs.LineAnswers.{of_second, valid_where}
use Rattle.lx_lists.proofs.session.answer_second.Goals as goal

pub attempt_second-requires-clause-start : goal.attempt_second-requires-clause-start
attempt_second-requires-clause-start g c = rw c.begin_second-turn.ensures refl

pub attempt_second-requires-clause-valid : goal.attempt_second-requires-clause-valid
attempt_second-requires-clause-valid g c = rw c.begin_second-turn.ensures (valid_where (line_of c.args.rest.now) (line_of-valid c.args.rest.now))

pub attempt_second-requires-clause-taken : goal.attempt_second-requires-clause-taken
attempt_second-requires-clause-taken g c = rw c.begin_second-turn.ensures (of_second (line_of c.args.rest.now)).taken

pub finish_without_frame-requires-clause-no_frame : goal.finish_without_frame-requires-clause-no_frame
finish_without_frame-requires-clause-no_frame g c =
    rw (c.attempt_second.ensures.meaning, c.begin_second-turn.ensures) (of_second (line_of c.args.rest.now)).frame

pub returns-clause-answered : goal.returns-clause-answered
returns-clause-answered g c = λ ample stood s text stands counted is.
    let from = c.begin_second-turn.ensures ∙ ap (λ (rest : List ℕ). unattempted (where_of_second (line_of rest))) is.is in
    answered_second ample is.second
    (turn_answered {turn = c.attempt_second.new.turn} {before = c.args.tally.now} (λ is. c.attempt_second.ensures.memory (stood is))
    (rw from at (c.attempt_second.ensures.tried s.state stands)) c.attempt_second.ensures.over counted
    (rw c.list.ensures at c.finish_without_frame.ensures.text) (rw c.list.ensures at c.finish_without_frame.ensures.counts))

pub returns-clause-more : goal.returns-clause-more
returns-clause-more g c =
    rw (c.attempt_second.ensures.meaning, c.begin_second-turn.ensures, (of_second (line_of c.args.rest.now)).quit) at
    c.finish_without_frame.ensures.quit
