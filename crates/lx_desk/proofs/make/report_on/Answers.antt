use Rattle.lx_desk.proofs.Imports.{◌∙◌, ap, arith, sum, Kept}
use Rattle.lx_desk.proofs.make.report_on.Goals as goal

pub first_universe-requires : goal.first_universe-requires
first_universe-requires c = omega (arith, c.frames.ensures.slots.reach)

pub returns : goal.returns
returns c = λ d stands. cc (
  c.moment.ensures ∙ ap (λ (k : Kept). k.playback.moment) stands.same,
  c.sum_of.ensures ∙ ap sum (c.first_universe.ensures.slots ∙ c.frames.ensures.frames d 1 stands (omega arith) (omega arith)),
)
