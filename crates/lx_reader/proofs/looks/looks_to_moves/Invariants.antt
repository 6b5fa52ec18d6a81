use Rattle.lx_reader.proofs.Imports.{◌≡◌}
use Rattle.lx_reader.proofs.LookMoves.{IsLooked}
use Rattle.lx_reader.proofs.looks.looks_to_moves.Given as goal

abbrev pub invariant-loop-left : goal.invariant-loop-left
invariant-loop-left g l = record {
  looked : IsLooked l.left l.fn.show l.show;
  count : g.H.Heap.refusals l.heap ≡ g.H.Heap.refusals l.fn.heap;
}

abbrev pub decreases-loop-left : goal.decreases-loop-left
decreases-loop-left g l = l.left
