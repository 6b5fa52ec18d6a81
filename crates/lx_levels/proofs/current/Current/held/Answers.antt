use Rattle.lx_levels.proofs.Imports.{arith, common_steps}
use Rattle.lx_levels.proofs.current.Current.held.Goals as goal

pub returns-clause-stays : goal.returns-clause-stays
returns-clause-stays c = grind (arith, common_steps)
