use Rattle.lx_reader.proofs.Imports.{◌≡◌, last_look, moves_up_to}
use Rattle.lx_reader.proofs.looks.look_moves.Given as goal

abbrev pub invariant-loop-n : goal.invariant-loop-n
invariant-loop-n g l = record {
  moves : l.moves ≡ moves_up_to (last_look l.front) l.cue l.n;
  count : g.H.Heap.refusals l.heap ≡ g.H.Heap.refusals l.fn.heap;
}
