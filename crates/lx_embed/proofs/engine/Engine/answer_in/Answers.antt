use Rattle.lx_embed.proofs.Imports.{rules, ◌≡◌}
use Rattle.lx_embed.specs.declared.engine.Engine.TheVariants.{Plain, Undo}
use Rattle.lx_embed.proofs.engine.Engine.answer_in.Goals as goal

pub returns-in-Plain-clause-answered : goal.returns-in-Plain-clause-answered
returns-in-Plain-clause-answered g c = λ ample stood.
    let is : c.args.self.now ≡ Plain c.in-Plain.console = search rules in
    rw is (c.answer_plain.ensures.answered ample stood)

pub returns-in-Undo-clause-answered : goal.returns-in-Undo-clause-answered
returns-in-Undo-clause-answered g c = λ ample stood.
    let is : c.args.self.now ≡ Undo c.in-Undo.desk = search rules in
    rw is (c.answer_undo.ensures.answered ample stood)
