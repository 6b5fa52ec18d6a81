use Rattle.lx_mixer.proofs.Imports.{Each2-splat, Each1-zip2}
use Rattle.lx_mixer.proofs.Words.{halves_fit, upper_halves}
use Rattle.lx_mixer.proofs.mix.upper_halves.Goals as goal

pub overflow_cast-result : goal.overflow_cast-result
overflow_cast-result c = Each1-zip2 _ _ _ _ (Each2-splat _ _ 16 16 (Each1-zip2 _ _ _ _
    (Each2-splat _ _ 16 c.args.by (halves_fit c.args.by c.ranges.by.fits c.args.levels c.fits-levels.1))))

pub returns : goal.returns
returns c = upper_halves c.args.by c.ranges.by.fits c.args.levels c.fits-levels.0 c.fits-levels.1
