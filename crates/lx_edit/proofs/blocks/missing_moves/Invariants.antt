use Rattle.lx_edit.proofs.Imports.{◌≡◌, ◌-◌, map, filter, is_none, not, ◌&&◌, ◌==◌, if◌then◌else◌, range_with_len, move_in, tracked}
use Rattle.lx_edit.proofs.blocks.missing_moves.Given as goal

abbrev pub invariant-loop-k : goal.invariant-loop-k
invariant-loop-k g l = record {
  items : l.moves.items ≡ map (λ c. record { chan = c; part = 1; level = if l.here then tracked l.show l.cue.number c else 0 }) (filter
      (λ c. is_none (move_in l.cue c) && not (tracked l.show (if l.here then l.cue.number else l.cue.number - 1) c == 0))
      (range_with_len 1 (l.k - 1)));
  count : g.H.Heap.refusals l.heap ≡ g.H.Heap.refusals l.initial.heap;
}
