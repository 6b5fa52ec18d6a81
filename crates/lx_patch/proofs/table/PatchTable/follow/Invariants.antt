use Rattle.lx_patch.proofs.Imports.{◌-◌, ◌≤◌, length, SLOTS, AreSlots, IsFollowed}
use Rattle.lx_patch.proofs.table.PatchTable.follow.Given as goal

abbrev pub invariant-loop-k : goal.invariant-loop-k
invariant-loop-k l = record {
  within : l.from ≤ length l.before;
  followed : AreSlots l.places l.levels l.before l.fn.slots 0 SLOTS
      → IsFollowed l.places l.levels l.before l.out_levels l.slots SLOTS l.from;
}

abbrev pub decreases-loop-k : goal.decreases-loop-k
decreases-loop-k l = length l.before - l.from
