use Rattle.lx_levels.proofs.Imports.{arith}
use Rattle.lx_levels.proofs.levels.Levels.settled.Goals as goal

pub at-requires : goal.at-requires
at-requires c = omega (arith, c.loop-k-test.true, c.len-k-end.ensures, c.self.invariant.right.reaches)
