use Rattle.lx_show.proofs.Imports.{◌++◌, ◌∙◌, ap, sym, subst, filter, not, ◌&&◌, nat_le, IsStrictlySorted, entries_below, IsStrictlySorted-filter}
use Rattle.lx_show.proofs.Stretches.{around_range}
use Rattle.lx_show.proofs.list.SortedList.copy_without.Goals as goal

pub returns-clause-list : goal.returns-clause-list
returns-clause-list g c =
    let key = g.T.Keyed.key in
    let xs = c.as_slice-xs.result.now in
    let same = c.as_slice-xs.ensures.value in
    let all = same ∙ c.self.view_is in
    c.in_ok-append-2.ensures.ok ∙ ap (λ ys. ys ++ c.above-back.result.now) (c.in_ok-append.ensures.ok
    ∙ ap (λ ys. ys ++ c.below-front.result.now) c.in_ok-copy.ensures.items ∙ c.below-front.ensures)
    ∙ ap (λ ys. entries_below key c.args.first xs ++ ys) c.above-back.ensures
    ∙ around_range key c.args.first c.args.last xs c.requires (subst (IsStrictlySorted key) (sym same) c.self.invariant)
    ∙ ap (filter (λ x. not (nat_le c.args.first (key x) && nat_le (key x) c.args.last))) all

pub invariant_of-result : goal.invariant_of-result
invariant_of-result g c =
    subst (IsStrictlySorted g.T.Keyed.key) (sym (returns-clause-list g c)) (IsStrictlySorted-filter g.T.Keyed.key _ c.args.self.now
    (subst (IsStrictlySorted g.T.Keyed.key) c.self.view_is c.self.invariant))
