use Rattle.std.proofs.Common.{arith}
use Rattle.std.proofs.lemmas.Simd.{Each1-all, Each2-splat, Each1-zip2}
use Rattle.lx_base.proofs.Lanes.{quotients_fit, scaled_lanes}
use Rattle.lx_base.proofs.rows.scale_lanes.Goals as goal

pub nonzero_div-result : goal.nonzero_div-result
nonzero_div-result c = Each2-splat _ _ 32 255 (Each1-all _ (λ x. omega arith) _)

pub overflow_cast-result : goal.overflow_cast-result
overflow_cast-result c = Each1-zip2 _ _ _ _
    (Each2-splat _ _ 32 255 (Each1-zip2 _ _ _ _ (quotients_fit c.args.levels c.args.by c.fits-levels.1 c.fits-by.1)))

pub returns : goal.returns
returns c = scaled_lanes c.args.levels c.args.by c.fits-levels.0 c.fits-by.0 c.fits-levels.1 c.fits-by.1
