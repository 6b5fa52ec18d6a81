use Rattle.lx_reader.proofs.Imports.{◌≡◌, take}
use Rattle.lx_reader.proofs.PlacedOver.{levels_placed}
use Rattle.lx_reader.proofs.open_moves.put_members.Given as goal

abbrev pub invariant-loop-entry : goal.invariant-loop-entry
invariant-loop-entry g l = record {
  list : l.list ≡ levels_placed l.initial.list (take l.entry-index l.moves);
  count : g.H.Heap.refusals l.heap ≡ g.H.Heap.refusals l.fn.heap;
}
