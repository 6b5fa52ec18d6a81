-- An entry exchanged for another, or taken out: what is there then, and exchanged back.
use Rattle.lx_edit.proofs.Imports.{◌≡◌, ℕ, List, Some, None, refl, ◌∙◌, sym, ap, subst, inl, inr, Option, IfSome, ◌==◌, not, ◌++◌, ◌∷◌}
use Rattle.lx_edit.proofs.Imports.{true, cases_eq, nat_tests, arith, option_to_list, not-true, IsStrictlySorted, entry_at, placed, entries_below}
use Rattle.lx_edit.proofs.Imports.{entries_above, below_and_above, each, passes, find_none, find_in_filter, IsStrictlySorted-filter, IsStrictlySorted-placed}
use Rattle.lx_edit.proofs.Imports.{entry_at-placed_here, entry_at-placed_other, found_number, exchanged_at, same_lists}
use Rattle.lx_edit.proofs.Lists.{if_found}

other_stays : (a k n : ℕ) → (k ≡ n → ⊥) → (a == k) ≡ true → not (a == n) ≡ true
other_stays a k n other is = grind (arith, nat_tests)

pub sorted_exchanged : {A : Type 0} (key : A → ℕ) (n : ℕ) (new : Option A) (xs : List A) → IsStrictlySorted key xs
    → IsStrictlySorted key (exchanged_at key n new xs)
sorted_exchanged key n None xs sorted = IsStrictlySorted-filter key _ xs sorted
sorted_exchanged key n (Some x) xs sorted = IsStrictlySorted-placed key x xs sorted

pub exchanged_here : {A : Type 0} (key : A → ℕ) (n : ℕ) (new : Option A) (xs : List A) → IfSome new (λ x. key x ≡ n)
    → entry_at key n (exchanged_at key n new xs) ≡ new
exchanged_here key n None xs number =
    find_none _ _ (each _ _ _ (λ x h. not-true (key x == n) h) (passes (λ x. not (key x == n)) xs))
exchanged_here key n (Some x) xs number = entry_at-placed_here key n x xs number

pub exchanged_other : {A : Type 0} (key : A → ℕ) (n k : ℕ) (new : Option A) (xs : List A) → IfSome new (λ x. key x ≡ n) → (k ≡ n → ⊥)
    → entry_at key k (exchanged_at key n new xs) ≡ entry_at key k xs
exchanged_other key n k None xs number other =
    find_in_filter (λ x. key x == k) (λ x. not (key x == n)) xs (λ x h. other_stays (key x) k n other h)
exchanged_other key n k (Some x) xs number other = entry_at-placed_other key k x xs (λ is. other (sym is ∙ number))

-- what stands below the number, the new entry, and what stands above the number
pub exchanged_parts : {A : Type 0} (key : A → ℕ) (n : ℕ) (new : Option A) (xs : List A) → IfSome new (λ x. key x ≡ n)
    → IsStrictlySorted key xs → exchanged_at key n new xs ≡ entries_below key n xs ++ (option_to_list new ++ entries_above key n xs)
exchanged_parts key n None xs number sorted = sym (below_and_above key n xs sorted)
exchanged_parts key n (Some x) xs number sorted = ap (λ k. entries_below key k xs ++ (x ∷ entries_above key k xs)) number

pub found_here : {A : Type 0} (key : A → ℕ) (n : ℕ) (xs : List A) → IfSome (entry_at key n xs) (λ x. key x ≡ n)
found_here key n xs = if_found _ (λ x is. sym (found_number key n xs x is))

-- a sorted list that has the entry, and otherwise what the first has, is the first with its entry exchanged
exchanged_is : {A : Type 0} (key : A → ℕ) (n : ℕ) (new : Option A) (xs ys : List A) → IsStrictlySorted key xs → IsStrictlySorted key ys
    → entry_at key n ys ≡ new → ((k : ℕ) → (k ≡ n → ⊥) → entry_at key k xs ≡ entry_at key k ys) → exchanged_at key n new xs ≡ ys
exchanged_is {A} key n new xs ys one other here apart =
    let number = subst (λ (o : Option A). IfSome o (λ x. key x ≡ n)) here (found_here key n ys) in
    same_lists key (exchanged_at key n new xs) ys (sorted_exchanged key n new xs one) other (λ k. elim (cases_eq k n) [
      | inl is ↦ subst (λ j. entry_at key j (exchanged_at key n new xs) ≡ entry_at key j ys) (sym is)
          (exchanged_here key n new xs number ∙ sym here)
      | inr far ↦ exchanged_other key n k new xs number far ∙ apart k far
    ])

-- an entry exchanged for itself
pub exchanged_same : {A : Type 0} (key : A → ℕ) (n : ℕ) (xs : List A) → IsStrictlySorted key xs
    → exchanged_at key n (entry_at key n xs) xs ≡ xs
exchanged_same key n xs sorted = exchanged_is key n (entry_at key n xs) xs xs sorted sorted refl (λ k far. refl)

-- and exchanged back
pub exchanged_back : {A : Type 0} (key : A → ℕ) (n : ℕ) (new old : Option A) (xs : List A) → entry_at key n xs ≡ old
    → IsStrictlySorted key xs → IfSome new (λ x. key x ≡ n) → exchanged_at key n old (exchanged_at key n new xs) ≡ xs
exchanged_back key n new old xs is sorted number =
    exchanged_is key n old (exchanged_at key n new xs) xs (sorted_exchanged key n new xs sorted) sorted is
    (λ k far. exchanged_other key n k new xs number far)

-- an entry changed, then another, and then both back in the same order
pub both_back : {A : Type 0} (key : A → ℕ) (n : ℕ) (new : Option A) (above old : A) (xs : List A) → IsStrictlySorted key xs
    → IfSome new (λ x. key x ≡ n) → (key above ≡ n → ⊥) → entry_at key (key above) xs ≡ Some old
    → placed key old (exchanged_at key n (entry_at key n xs) (placed key above (exchanged_at key n new xs))) ≡ xs
both_back key n new above old xs sorted number apart is =
    let first = entry_at key n xs in
    let was = found_here key n xs in
    let both = placed key above (exchanged_at key n new xs) in
    exchanged_is key (key above) (Some old) (exchanged_at key n first both) xs (sorted_exchanged key n first both
    (IsStrictlySorted-placed key above _ (sorted_exchanged key n new xs sorted))) sorted is (λ k far. elim (cases_eq k n) [
      | inl here ↦ subst (λ j. entry_at key j (exchanged_at key n first both) ≡ entry_at key j xs) (sym here)
          (exchanged_here key n first both was)
      | inr other ↦ exchanged_other key n k first both was other ∙ entry_at-placed_other key k above _ (λ h. far (sym h))
          ∙ exchanged_other key n k new xs number other
    ])
