use Rattle.lx_undo.proofs.Imports.{◌∙◌, ap, subst, refl, Option, Line, is_quit, LineState}
use Rattle.lx_session.specs.OneAnswer.{GoesOnUnless}
use Rattle.lx_undo.proofs.LineAnswers.{answered_line}
use Rattle.lx_undo.proofs.session.answer_plain.Goals as goal

pub attempt_all-requires-clause-start : goal.attempt_all-requires-clause-start
attempt_all-requires-clause-start g c = rw c.of-turn.ensures refl

pub attempt_all-requires-clause-valid : goal.attempt_all-requires-clause-valid
attempt_all-requires-clause-valid g c = rw c.of-turn.ensures c.requires.valid

pub returns-clause-answered : goal.returns-clause-answered
returns-clause-answered g c = λ ample stood s text stands counted is none.
    answered_line c.args.tally.now ample (λ is_ample. c.attempt_all.ensures.memory (stood is_ample)) c.of-turn.ensures c.console.ensures is none counted (c.attempt_all.ensures.tried s.state stands)
    c.attempt_all.ensures.over c.finish.ensures.text c.finish.ensures.counts

pub returns-clause-quit : goal.returns-clause-quit
returns-clause-quit g c = λ text line.
    let same = c.attempt_all.ensures.meaning ∙ ap (λ (t : LineState). t.meaning) c.of-turn.ensures in
    subst (λ (m : Option Line). GoesOnUnless (is_quit m) c.finish.result) (same ∙ line) c.finish.ensures.quit
