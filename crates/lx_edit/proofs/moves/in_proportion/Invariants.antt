use Rattle.lx_edit.proofs.Imports.{◌≡◌, ◌+◌, ◌++◌, ◌≤◌, length, vec_capacity}
use Rattle.lx_groups.specs.Left.{members_left}
use Rattle.lx_edit.proofs.moves.in_proportion.Given as goal

abbrev pub invariant-loop-member : goal.invariant-loop-member
invariant-loop-member g l = record {
  items : l.scaled.items ++ members_left l.rest ≡ members_left l.initial.rest;
  room : length l.scaled.items + length (members_left l.rest) ≤ vec_capacity l.scaled;
}

abbrev pub decreases-loop-member : goal.decreases-loop-member
decreases-loop-member g l = length (members_left l.rest)
