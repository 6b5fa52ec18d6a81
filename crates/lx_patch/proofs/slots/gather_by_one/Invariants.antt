use Rattle.lx_patch.proofs.Imports.{◌≡◌, ℕ, ◌<◌, ◌+◌, length, slice_index}
use Rattle.lx_patch.proofs.slots.gather_by_one.Given as goal

abbrev pub invariant-loop-k : goal.invariant-loop-k
invariant-loop-k l = record {
  long : length l.gathered ≡ 32;
  each : (k : ℕ) → k < l.k → slice_index l.gathered k ≡ slice_index l.outs (slice_index l.places (l.at + k));
}
