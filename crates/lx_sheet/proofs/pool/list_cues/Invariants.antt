use Rattle.lx_sheet.proofs.Imports.{◌≡◌, take, vec_capacity, placed_from}
use Rattle.lx_sheet.proofs.pool.list_cues.Given as goal

abbrev pub invariant-loop-row : goal.invariant-loop-row
invariant-loop-row l = record {
  order : l.order.items ≡ placed_from 0 (take l.row l.cues);
  room : vec_capacity l.order ≡ vec_capacity l.initial.order;
}
