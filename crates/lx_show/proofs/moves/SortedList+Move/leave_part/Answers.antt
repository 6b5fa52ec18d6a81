use Rattle.lx_show.proofs.Imports.{◌≡◌, ◌∙◌, ap, sym, subst, ℕ, map, true, false, cond, refl, length, arith, length-map, with_items_is, ◌==◌}
use Rattle.lx_show.proofs.Imports.{Move, IsStrictlySorted, out_of_part, IsStrictlySorted-map}
use Rattle.lx_show.proofs.moves.SortedList+Move.leave_part.Goals as goal

same_channel : (p : ℕ) (m : Move) → (out_of_part p m).chan ≡ m.chan
same_channel p m = elim (m.part == p) as (λ b. (cond b (record m { part = 1 }) m).chan ≡ m.chan) [ true ↦ refl | false ↦ refl ]

pub invariant_of-self : goal.invariant_of-self
invariant_of-self c =
    let xs = c.self.inside.entries.items in
    let same : c.leave_part.new.moves ≡ map (out_of_part c.args.part) xs = c.leave_part.ensures
    ∙ ap (map (out_of_part c.args.part)) c.deref_mut.ensures.value in
    let long : length c.leave_part.new.moves ≡ c.self.inside.entries.len =
    omega (
      arith,
      ap length c.leave_part.ensures,
      length-map c.deref_mut.result.now (out_of_part c.args.part),
      c.deref_mut.ensures.len,
    ) in
    subst (IsStrictlySorted (λ (m : Move). m.chan)) (sym (with_items_is c.self.inside.entries c.leave_part.new.moves long ∙ same))
    (IsStrictlySorted-map (λ (m : Move). m.chan) (out_of_part c.args.part) xs (same_channel c.args.part) c.self.invariant)
