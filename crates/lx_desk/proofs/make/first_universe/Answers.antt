use Rattle.lx_desk.proofs.Imports.{refl, arith}
use Rattle.std.proofs.Common.{length-take-le}
use Rattle.lx_desk.proofs.make.first_universe.Goals as goal

pub returns-clause-slots : goal.returns-clause-slots
returns-clause-slots c = refl

pub returns-clause-reach : goal.returns-clause-reach
returns-clause-reach c = omega (arith, length-take-le 512 c.args.slots.now c.requires)
