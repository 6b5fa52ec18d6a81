use Rattle.lx_crew.proofs.Rules.{begins}
use Rattle.lx_crew.proofs.queue_heap.made.Goals as goal

pub ruled-requires-clause-rule : goal.ruled-requires-clause-rule
ruled-requires-clause-rule c = begins
