use Rattle.lx_edit.proofs.Imports.{◌≡◌, ◌+◌, ◌-◌, ◌≤◌, length, vec_capacity, range_with_len, all_at}
use Rattle.lx_edit.proofs.moves.all_at.Given as goal

abbrev pub invariant-loop-n : goal.invariant-loop-n
invariant-loop-n g l = record {
  items : l.members.items ≡ all_at l.level (range_with_len l.first (l.n - l.first));
  room : length l.members.items + (l.last + 1 - l.n) ≤ vec_capacity l.members;
}
