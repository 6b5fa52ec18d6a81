use Rattle.lx_embed.proofs.Imports.{refl, sym, begin_at, UndoStands}
use Rattle.lx_session.specs.Spared.{spared}
use Rattle.lx_spec.specs.UndoSession.{undo_answering}
use Rattle.lx_embed.proofs.Lines.{line_answered, wanted}
use Rattle.lx_embed.proofs.engine.answer_undo.Goals as goal

pub returns-clause-answered : goal.returns-clause-answered
returns-clause-answered g c = λ ample stood s stands.
    line_answered (spared ample undo_answering) (λ next. UndoStands next c.answer_in.new.self) s c.args.line.now c.args.reply.now
    c.answer_in.new.sink c.answer_in.result c.answer_in.new.tally c.requires
    (c.answer_in.ensures.answered ample stood (begin_at s) c.args.line.now stands (sym c.new-tally.ensures) refl)
    (c.answer_in.ensures.quit c.args.line.now refl)

pub returns-clause-wanted : goal.returns-clause-wanted
returns-clause-wanted g c = wanted c.args.reply.now c.answer_in.new.sink c.answer_in.result c.answer_in.ensures.cause
