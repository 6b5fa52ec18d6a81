use Rattle.lx_session.proofs.Imports.{rules, Some, None, ap, sym, ◌∙◌, refl, unattempted, IsAmple, SparedAnswer, subst}
use Rattle.lx_spec.specs.declared.Line.TheVariants as lines
use Rattle.lx_session.proofs.AnsweredLines.{answered}
use Rattle.lx_session.proofs.AttemptSteps.{nothing_yet}
use Rattle.lx_session.proofs.Replies.{on_ok}
use Rattle.lx_session.proofs.line.read_and_answer.Goals as goal

pub returns-in-None-clause-answered : goal.returns-in-None-clause-answered
returns-in-None-clause-answered g c = λ s stands counted.
    rw (sym c.in-None.ensures.meaning) (answered {turn = unattempted None} {before = c.args.tally.now} (λ ample want. cc)
    (nothing_yet stands refl (g.met.L.Listener.nothing c.args.listener.now)) refl counted (λ d here. c.give.ensures.text)
    (λ d here. on_ok c.give.result _ c.give.ensures.counts))

pub returns-in-Some-Frame-clause-answered : goal.returns-in-Some-Frame-clause-answered
returns-in-Some-Frame-clause-answered g c = λ s stands counted.
    rw (sym c.in-Some-Frame.ensures.meaning ∙ ap Some c.in-Some-Frame.field-0-is) (answered
    {turn = unattempted (Some (lines.Frame c.in-Some-Frame.universe))} {before = c.args.tally.now} (λ ample want. cc)
    (nothing_yet stands refl (g.met.L.Listener.nothing c.args.listener.now)) refl counted c.put_universe.ensures.text
    (λ d here. on_ok c.put_universe.result _ refl))

pub returns-in-Some-Command-Key-clause-answered : goal.returns-in-Some-Command-Key-clause-answered
returns-in-Some-Command-Key-clause-answered g c = λ s stands counted.
    let a = c.answer_key.ensures.answered s stands counted in
    rw (sym c.in-Some-Command-Key.ensures.meaning ∙ ap Some (c.in-Some-Command-Key.field-0-is ∙ ap lines.Command c.in-Some-Command-Key.field-0-0-is))
    (record { answer = a.answer; none = λ ample. a.none ample.admitted })

pub returns-in-Some-clause-answered : goal.returns-in-Some-clause-answered
returns-in-Some-clause-answered g c = λ s stands counted.
    let now = c.answer_read.new.listener in
    let all = g.L.Listener.admitted_all now in
    let Ample = IsAmple all (g.H.Heap.refusals c.args.heap.now) (g.H.Heap.refusals c.answer_read.new.heap) in
    subst (λ m. SparedAnswer Ample all (g.L.Listener.heard c.args.listener.now now) g.K.Sink c.args.sink.now c.answer_read.new.sink
    c.answer_read.result s m c.answer_read.new.console c.answer_read.new.tally) (search rules)
    (c.answer_read.ensures.answered s stands counted)
