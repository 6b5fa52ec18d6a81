use Rattle.lx_patch.proofs.Imports.{◌-◌, SLOTS}
use Rattle.lx_patch.proofs.Chains.{IsWalked}
use Rattle.lx_patch.proofs.followers.Followers.fill.Given as goal

abbrev pub invariant-loop-e : goal.invariant-loop-e
invariant-loop-e l = IsWalked l.places l.levels l.fn.slots l.slots l.k l.out l.e

abbrev pub decreases-loop-e : goal.decreases-loop-e
decreases-loop-e l = SLOTS - l.e
