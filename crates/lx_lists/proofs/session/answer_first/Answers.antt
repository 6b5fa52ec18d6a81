use Rattle.lx_lists.proofs.Imports.{◌∙◌, sym, ap, subst, Option, Line, LineState, option_copied, is_quit, line_of, frame_of, unattempted, turn_answered}
use Rattle.lx_lists.proofs.Imports.{meaning_is}
use Rattle.lx_session.specs.OneAnswer.{GoesOnUnless}
use Rattle.lx_session.proofs.Replies.{frame_is}
use Rattle.lx_lists.proofs.TwoAnswers.{answered_first, answered_frame}
use Rattle.lx_lists.proofs.session.answer_first.Goals as goal

pub returns-in-Some-clause-answered : goal.returns-in-Some-clause-answered
returns-in-Some-clause-answered g c = λ ample stood s text stands counted is first.
    let from = c.begin-turn.ensures ∙ ap unattempted (meaning_is (option_copied c.args.line) text is) in
    answered_frame ample c.in-Some.universe first
    (frame_is (line_of text) c.in-Some.universe (rw from at (sym c.frame_universe.ensures.universe ∙ c.in-Some.is)))
    stands counted (c.put_universe.ensures.text s.state stands)

pub finish_without_frame-requires-clause-no_frame : goal.finish_without_frame-requires-clause-no_frame
finish_without_frame-requires-clause-no_frame g c =
    ap frame_of c.attempt_all.ensures.meaning ∙ sym c.frame_universe.ensures.universe ∙ c.in-None.is

pub returns-in-None-clause-quit : goal.returns-in-None-clause-quit
returns-in-None-clause-quit g c = λ text is.
    let from = c.begin-turn.ensures ∙ ap unattempted (meaning_is (option_copied c.args.line) text is) in
    subst (λ (m : Option Line). GoesOnUnless (is_quit m) c.finish_without_frame.result)
    (c.attempt_all.ensures.meaning ∙ ap (λ (t : LineState). t.meaning) from) c.finish_without_frame.ensures.quit

pub returns-in-None-clause-answered : goal.returns-in-None-clause-answered
returns-in-None-clause-answered g c = λ ample stood s text stands counted is first.
    let from = c.begin-turn.ensures ∙ ap unattempted (meaning_is (option_copied c.args.line) text is) in
    answered_first ample first (rw from at (sym c.frame_universe.ensures.universe ∙ c.in-None.is))
    (turn_answered {turn = c.attempt_all.new.turn} {before = c.args.tally.now} (λ is. c.attempt_all.ensures.memory (stood is))
    (rw from at (c.attempt_all.ensures.tried s.state stands)) c.attempt_all.ensures.over counted
    (rw c.list.ensures at c.finish_without_frame.ensures.text) (rw c.list.ensures at c.finish_without_frame.ensures.counts))
