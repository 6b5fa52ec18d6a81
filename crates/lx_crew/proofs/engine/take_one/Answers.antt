use Rattle.lx_crew.proofs.Rules.{takes}
use Rattle.lx_crew.proofs.engine.take_one.Goals as goal

pub try_pop_as-requires-clause-rule : goal.try_pop_as-requires-clause-rule
try_pop_as-requires-clause-rule g c = takes _ _ c.requires.pops
