use Rattle.lx_edit.proofs.Imports.{◌≡◌, ◌-◌, all_at, range_with_len, ValidMembers, with_members}
use Rattle.lx_edit.proofs.members.put_members.Given as goal

abbrev pub invariant-loop-n : goal.invariant-loop-n
invariant-loop-n g l = record {
  is : l.list ≡ with_members l.initial.list (all_at l.level (range_with_len l.first (l.n - l.first)));
  valid : ValidMembers l.channels l.list;
  count : g.H.Heap.refusals l.heap ≡ g.H.Heap.refusals l.initial.heap;
}
