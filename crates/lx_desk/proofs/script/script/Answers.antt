use Rattle.lx_desk.proofs.Imports.{refl, sym, ap, ◌∙◌, if◌then◌else◌, None, Some, Script}
use Rattle.lx_desk.specs.declared.desk.Status.TheVariants as status
use Rattle.lx_desk.proofs.Inputs.{all_known, unwritten}
use Rattle.lx_desk.proofs.Jobs.{done_here}
use Rattle.lx_desk.proofs.script.script.Goals as goal

pub returns-clause-answered : goal.returns-clause-answered
returns-clause-answered g c = done_here refl (ap (λ b. if b then Some status.Live else None) (sym c.is_live.ensures ∙ c.if-is_live.false))
    c.read_and_play.ensures.works

pub returns-then-is_live-clause-prefix : goal.returns-then-is_live-clause-prefix
returns-then-is_live-clause-prefix g c =
    all_known (g.S.Source.left c.args.input.now) _ (λ x. unwritten None (Script c.args.kind c.args.form) x (g.K.Sink.holds c.args.output.now))

pub returns-then-is_live-clause-ended : goal.returns-then-is_live-clause-ended
returns-then-is_live-clause-ended g c = λ most known.
    all_known (g.S.Source.left c.args.input.now) _ (λ x. ap (λ b. if b then Some status.Live else None)
    (sym c.is_live.ensures ∙ c.if-is_live.true))
