use Rattle.lx_patch.proofs.Imports.{◌≤◌, SLOTS, AreDarkFrom}
use Rattle.lx_patch.proofs.followers.top_of.Given as goal

abbrev pub invariant-loop-top : goal.invariant-loop-top
invariant-loop-top l = record {
  most : l.top ≤ SLOTS;
  dark : AreDarkFrom l.levels l.top;
}

abbrev pub decreases-loop-top : goal.decreases-loop-top
decreases-loop-top l = l.top
