use Rattle.lx_patch.proofs.Imports.{◌≡◌, ℕ, ◌*◌, ◌≤◌, slice_index, AreSlots}
use Rattle.lx_patch.proofs.slots.fill.Given as goal

abbrev pub invariant-loop-i : goal.invariant-loop-i
invariant-loop-i l = record {
  filled : AreSlots l.places l.levels l.outs l.slots 0 (32 * l.i);
  others : (k : ℕ) → 32 * l.i ≤ k → slice_index l.slots k ≡ slice_index l.initial.slots k;
}

abbrev pub invariant-loop-i-2 : goal.invariant-loop-i-2
invariant-loop-i-2 l = record {
  filled : AreSlots l.places l.levels l.outs l.slots 0 l.i;
  others : (k : ℕ) → l.i ≤ k → slice_index l.slots k ≡ slice_index l.fn.slots k;
}
