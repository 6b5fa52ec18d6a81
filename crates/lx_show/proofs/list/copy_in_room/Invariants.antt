use Rattle.lx_show.proofs.Imports.{◌≡◌, take, vec_capacity}
use Rattle.lx_show.proofs.list.copy_in_room.Given as goal

abbrev pub invariant-loop-x : goal.invariant-loop-x
invariant-loop-x g l = record {
  items : l.copy.items ≡ take l.x-index l.xs;
  room : vec_capacity l.copy ≡ l.room;
  count : g.H.Heap.refusals l.heap ≡ g.H.Heap.refusals l.fn.heap;
}
