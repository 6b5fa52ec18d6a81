use Rattle.lx_desk.proofs.Imports.{◌≡◌, ◌<◌, ℕ, Option, Some, None, slice_get, OperatorFault}
use Rattle.lx_desk.proofs.crew.status_of_operators.Given as goal

abbrev pub invariant-loop-fault : goal.invariant-loop-fault
invariant-loop-fault l = (lower : ℕ) (other : Option OperatorFault) → lower < l.fault-index → slice_get l.fn.faults lower ≡ Some other
    → other ≡ None
