use Rattle.lx_record.proofs.Imports.{◌≡◌, ◌-◌, map, filter, range_with_len, tracked, level_now, comes_out_changed}
use Rattle.lx_record.proofs.kept.kept_moves.Given as goal

abbrev pub invariant-loop-k : goal.invariant-loop-k
invariant-loop-k g l = record {
  items : l.moves.items ≡ map (λ c. record { chan = c; part = 1; level = tracked l.console.show l.above.number c })
      (filter (comes_out_changed (level_now l.console) l.console.show l.above) (range_with_len 1 (l.k - 1)));
  count : g.H.Heap.refusals l.heap ≡ g.H.Heap.refusals l.initial.heap;
}
