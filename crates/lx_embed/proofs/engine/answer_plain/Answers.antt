use Rattle.lx_embed.proofs.Imports.{refl, true, sym, begin_at, begun, desk_answering, StandsFor}
use Rattle.lx_session.specs.Spared.{IsAmple, spared}
use Rattle.lx_embed.proofs.Lines.{line_answered, plain_answered, wanted}
use Rattle.lx_embed.proofs.engine.answer_plain.Goals as goal

pub returns-clause-answered : goal.returns-clause-answered
returns-clause-answered g c = λ ample stood d stands.
    let Ample = IsAmple true (g.H.Heap.refusals c.args.heap.now) (g.H.Heap.refusals c.answer_inlined.new.heap) in
    let answered = c.answer_inlined.ensures.answered (begin_at (begun d)) stands (sym c.new-tally.ensures) in
    line_answered (spared ample (desk_answering true)) (λ next. StandsFor next.desk c.answer_inlined.new.console) (begun d) c.args.line.now
    c.args.reply.now c.answer_inlined.new.sink c.answer_inlined.result c.answer_inlined.new.tally c.requires
    (plain_answered Ample ample (λ is. record { admitted = refl; stood = stood is }) d c.args.line.now _ c.args.reply.now
    c.answer_inlined.new.sink c.answer_inlined.result c.answer_inlined.new.console c.answer_inlined.new.tally answered)
    c.answer_inlined.ensures.quit

pub returns-clause-wanted : goal.returns-clause-wanted
returns-clause-wanted g c = wanted c.args.reply.now c.answer_inlined.new.sink c.answer_inlined.result c.answer_inlined.ensures.cause
