use Rattle.lx_mixer.proofs.Imports.{arith}
use Rattle.lx_mixer.proofs.Proportions.{proportions}
use Rattle.lx_mixer.proofs.mix.under.Goals as goal

pub returns : goal.returns
returns c = proportions c.args.levels c.args.master c.fits-levels.0 c.fits-levels.1
    (omega (arith, c.ranges.master.fits, c.if-master-eq255.false))
    c.upper_halves-low.result c.upper_halves-high.result c.upper_halves-low.ensures c.upper_halves-high.ensures
