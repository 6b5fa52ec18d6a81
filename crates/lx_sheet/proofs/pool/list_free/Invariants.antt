use Rattle.lx_sheet.proofs.Imports.{◌≡◌, ◌-◌, vec_capacity, range_with_len}
use Rattle.lx_sheet.proofs.pool.list_free.Given as goal

abbrev pub invariant-loop-row : goal.invariant-loop-row
invariant-loop-row l = record {
  free : l.free.items ≡ range_with_len l.from (l.row - l.from);
  room : vec_capacity l.free ≡ vec_capacity l.initial.free;
}
