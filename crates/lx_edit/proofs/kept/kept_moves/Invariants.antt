use Rattle.lx_edit.proofs.Imports.{◌≡◌, ◌-◌, map, filter, not, ◌==◌, option_copied, range_with_len, tracked, changed_show}
use Rattle.lx_edit.proofs.kept.kept_moves.Given as goal

abbrev pub invariant-loop-k : goal.invariant-loop-k
invariant-loop-k g l = record {
  items : l.moves.items ≡ map (λ c. record { chan = c; part = 1; level = tracked l.show l.above.number c })
      (filter (λ c. not (tracked l.show l.above.number c == tracked (changed_show l.show l.n (option_copied l.new)) l.above.number c))
      (range_with_len 1 (l.k - 1)));
  count : g.H.Heap.refusals l.heap ≡ g.H.Heap.refusals l.initial.heap;
}
