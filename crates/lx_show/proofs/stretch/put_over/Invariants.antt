use Rattle.lx_show.proofs.Imports.{◌≡◌, ◌-◌, ◌≤◌, length, take, vec_capacity, IsStrictlySorted, all_placed}
use Rattle.lx_show.proofs.stretch.put_over.Given as goal

abbrev pub invariant-loop-count : goal.invariant-loop-count
invariant-loop-count g l = record {
  most : l.count ≤ length l.more;
  items : l.xs.items ≡ all_placed g.T.Keyed.key (take l.count l.more) l.initial.xs.items;
  sorted : IsStrictlySorted g.T.Keyed.key l.xs.items;
  same : length l.xs.items ≡ length l.initial.xs.items;
  capacity : vec_capacity l.xs ≡ vec_capacity l.initial.xs;
}

abbrev pub decreases-loop-count : goal.decreases-loop-count
decreases-loop-count g l = length l.more - l.count
