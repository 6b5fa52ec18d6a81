use Rattle.lx_show.proofs.Imports.{ℕ, ◌-◌, rules, arith, nat_lt, sym, ap, ◌∙◌, get_or_default, in_order, lt_from, le_from}
use Rattle.std.proofs.lemmas.List.Sorted.{IsPartitionPoint-from_clause, IsPartitionedBy-ltb}
use Rattle.lx_show.proofs.Indexes.{stands_where, goes_where}
use Rattle.lx_show.proofs.sorted.halved.Goals as goal
use Rattle.lx_show.proofs.sorted.halved.Goals.{else-at-xs-via-then-at-xs+else-key-n, else-at-xs-via-else-at-xs}

pub returns-then-key-n-clause-stands : goal.returns-then-key-n-clause-stands
returns-then-key-n-clause-stands g c = stands_where g.T.Keyed.key c.args.n _ _ c.index-xs-at.result c.requires c.if-at-xs.true
    c.index-xs-at.is (sym c.key.ensures ∙ c.if-key-n.true)

pub returns-else-at-xs-clause-goes : goal.returns-else-at-xs-clause-goes
returns-else-at-xs-clause-goes g c =
    let key = g.T.Keyed.key in
    let parted = IsPartitionedBy-ltb key _ c.args.n (in_order key _ c.requires) in
    let point = IsPartitionPoint-from_clause (λ x. nat_lt (key x) c.args.n) _ _ c.partition_point-at.ensures.partitioned parted
    (λ a r q k. search rules) in
    let at : ℕ = c.partition_point-at.result in
    goes_where c.requires c.partition_point-at.ensures.bound (λ d some. lt_from _ _ (point.0 (at - 1) d (omega arith) (omega arith)))
    (λ d within. elim c.else-at-xs.branch [
      | else-at-xs-via-then-at-xs+else-key-n w ↦
          let same = w.key.ensures ∙ ap key (w.index-xs-at.is ∙ get_or_default _ _ w.index-xs-at.result d within) in
          let least = le_from _ _ (point.1 at d (omega arith) within) in omega (arith, same, least, w.if-key-n.false)
      | else-at-xs-via-else-at-xs w ↦ absurd (omega arith)
    ])
