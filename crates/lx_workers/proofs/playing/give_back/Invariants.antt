use Rattle.lx_workers.proofs.Imports.{◌≡◌, ◌≤◌, ◌<◌, ◌-◌, ℕ, length, vec_len, slice_get, Some, SinkFault, IsPrefix, OUTLETS, IsGiven}
use Rattle.lx_workers.proofs.playing.give_back.Given as goal

abbrev pub invariant-loop-lane : goal.invariant-loop-lane
invariant-loop-lane g l = record {
  count : l.count ≡ length l.initial.outlets;
  few : vec_len l.lanes ≤ length l.initial.outlets;
  lanes_len : vec_len l.lanes ≡ length l.lanes.items;
  same : length l.outlets ≡ length l.initial.outlets;
  outlets : length l.faults ≡ OUTLETS;
  others : (place : ℕ) (fault : SinkFault) → slice_get l.faults place ≡ Some (Some fault) → place < length l.initial.outlets;
  lanes : IsPrefix l.lanes.items l.initial.lanes.items;
  back : (k : ℕ) (x : _) → slice_get l.initial.lanes.items k ≡ Some x → vec_len l.lanes ≤ k
      → IsGiven g.K.Sink g.G.Origin.show l.outlets l.faults l.gate.published (length l.initial.outlets - 1 - k) x.tap x.sink x.served;
}

abbrev pub decreases-loop-lane : goal.decreases-loop-lane
decreases-loop-lane g l = vec_len l.lanes
