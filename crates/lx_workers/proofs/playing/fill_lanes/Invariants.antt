use Rattle.lx_workers.proofs.Imports.{◌≡◌, ◌≤◌, ◌<◌, ◌+◌, ℕ, length, vec_len, vec_capacity, slice_get, EachAt, IsNewTap, IsTaken}
use Rattle.lx_workers.proofs.playing.fill_lanes.Given as goal

abbrev pub invariant-loop-tap : goal.invariant-loop-tap
invariant-loop-tap g l = record {
  count : vec_len l.taps + vec_len l.lanes ≡ length l.initial.outlets;
  lanes_len : vec_len l.lanes ≡ length l.lanes.items;
  taps_len : vec_len l.taps ≡ length l.taps.items;
  room : length l.initial.outlets ≤ vec_capacity l.lanes;
  same : length l.outlets ≡ length l.initial.outlets;
  taps : EachAt IsNewTap l.taps.items;
  lanes : EachAt (λ k x. IsTaken l.initial.outlets (length l.initial.outlets) k x.tap x.sink) l.lanes.items;
  left : (j : ℕ) → j < vec_len l.taps → slice_get l.outlets j ≡ slice_get l.initial.outlets j;
}

abbrev pub decreases-loop-tap : goal.decreases-loop-tap
decreases-loop-tap g l = vec_len l.taps
