use Rattle.lx_patch.proofs.Imports.{drop, StandsForPatch}
use Rattle.lx_patch.proofs.wiring.Wiring.refresh.Given as goal

abbrev pub invariant-loop-i : goal.invariant-loop-i
invariant-loop-i l = StandsForPatch (drop l.i l.rows) l.self
