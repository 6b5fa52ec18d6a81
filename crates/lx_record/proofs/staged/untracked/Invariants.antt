use Rattle.lx_record.proofs.Imports.{◌≡◌, ◌-◌, map, filter, not, ◌==◌, range_with_len, tracked, level_now}
use Rattle.lx_record.proofs.staged.untracked.Given as goal

abbrev pub invariant-loop-k : goal.invariant-loop-k
invariant-loop-k g l = record {
  items : l.members.items ≡ map (λ c. record { chan = c; level = level_now l.console c })
      (filter (λ c. not (level_now l.console c == tracked l.console.show l.n c)) (range_with_len 1 (l.k - 1)));
  count : g.H.Heap.refusals l.heap ≡ g.H.Heap.refusals l.initial.heap;
}
