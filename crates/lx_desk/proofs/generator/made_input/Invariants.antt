use Rattle.std.proofs.Common.{◌≡◌, ◌<◌, ◌-◌, ◌^◌}
use Rattle.lx_desk.proofs.generator.made_input.Given as goal

abbrev pub invariant-rooms : goal.invariant-rooms
invariant-rooms g l = record {
  some : 0 < l.capacity;
  count : g.H.Heap.refusals l.heap ≡ g.H.Heap.refusals l.fn.heap;
}

abbrev pub decreases-rooms : goal.decreases-rooms
decreases-rooms g l = 2 ^ 64 - l.capacity
