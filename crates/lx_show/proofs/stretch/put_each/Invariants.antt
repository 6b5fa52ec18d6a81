use Rattle.lx_show.proofs.Imports.{◌≡◌, ◌+◌, ◌≤◌, length, vec_capacity, IsStrictlySorted, all_placed}
use Rattle.lx_show.proofs.stretch.put_each.Given as goal

abbrev pub invariant-loop-rest : goal.invariant-loop-rest
invariant-loop-rest g l = record {
  items : all_placed g.T.Keyed.key l.rest l.xs.items ≡ all_placed g.T.Keyed.key l.more l.fn.xs.items;
  sorted : IsStrictlySorted g.T.Keyed.key l.xs.items;
  room : length l.xs.items + length l.rest ≤ vec_capacity l.xs;
}

abbrev pub decreases-loop-rest : goal.decreases-loop-rest
decreases-loop-rest g l = length l.rest
