use Rattle.lx_patch.proofs.Imports.{◌≤◌, SLOTS, AreDarkFrom, AreDimmersChained}
use Rattle.lx_patch.proofs.followers.Followers.link.Given as goal

abbrev pub invariant-loop-e : goal.invariant-loop-e
invariant-loop-e l = record {
  within : l.e ≤ SLOTS;
  top : AreDarkFrom l.levels l.self.top;
  top_most : l.self.top ≤ SLOTS;
  chained : AreDimmersChained l.places l.levels l.self.first.items l.self.next.items l.e;
}

abbrev pub decreases-loop-e : goal.decreases-loop-e
decreases-loop-e l = l.e
