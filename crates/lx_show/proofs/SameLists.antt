-- Two sorted lists with the same entry of each number are the same list.
use Rattle.lx_show.proofs.Imports.{◌≡◌, ℕ, ◌<◌, ◌≤◌, List, [], ◌∷◌, Some, None, refl, ◌∙◌, sym, inl, inr, arith, Option}
use Rattle.lx_show.proofs.Imports.{AllByRecursion, cases_eq, cases_lt, IsStrictlySorted, entry_at, eq_true, eq_other, eq_above, each, find_none}
use Rattle.lx_show.proofs.Imports.{none_differs}

pub none_low : {A : Type 0} (key : A → ℕ) (n : ℕ) (xs : List A) → AllByRecursion (λ y. n < key y) xs → entry_at key n xs ≡ None
none_low key n xs all = find_none _ xs (each _ _ xs (λ y h. eq_above (key y) n h) all)

pub first_here : {A : Type 0} (key : A → ℕ) (n : ℕ) (x : A) (xs : List A) → key x ≡ n → entry_at key n (x ∷ xs) ≡ Some x
first_here key n x xs is = rw (eq_true (key x) n is) refl

pub first_other : {A : Type 0} (key : A → ℕ) (n : ℕ) (x : A) (xs : List A) → (key x ≡ n → ⊥) → entry_at key n (x ∷ xs) ≡ entry_at key n xs
first_other key n x xs other = rw (eq_other (key x) n other) refl

-- a list in which the first entry of another is found doesn't begin above it
not_above : {A : Type 0} (key : A → ℕ) (x y : A) (xs ys : List A) → AllByRecursion (λ z. key y < key z) ys
    → entry_at key (key x) (x ∷ xs) ≡ entry_at key (key x) (y ∷ ys) → key y ≤ key x
not_above key x y xs ys all same = elim (cases_lt (key x) (key y)) [
  | inl low ↦ absurd (none_differs x (sym (none_low key (key x) (y ∷ ys) (low, each _ _ ys (λ z h. omega (arith, low)) all)) ∙ sym same
      ∙ first_here key (key x) x xs refl))
  | inr le ↦ le
]

pub some_same : {A : Type 0} (x y : A) → ◌≡◌ {A = Option A} (Some x) (Some y) → x ≡ y
some_same x y is = cc

pub same_lists : {A : Type 0} (key : A → ℕ) (xs ys : List A) → IsStrictlySorted key xs → IsStrictlySorted key ys
    → ((n : ℕ) → entry_at key n xs ≡ entry_at key n ys) → xs ≡ ys
same_lists key [] [] one other same = refl
same_lists key [] (y ∷ ys) one other same = absurd (none_differs y (same (key y) ∙ first_here key (key y) y ys refl))
same_lists key (x ∷ xs) [] one other same = absurd (none_differs x (sym (same (key x)) ∙ first_here key (key x) x xs refl))
same_lists {A} key (x ∷ xs) (y ∷ ys) one other same =
    let here : key x ≡ key y = omega (arith, not_above key x y xs ys other.0 (same (key x)), not_above key y x ys xs one.0 (sym (same (key y)))) in
    let first : x ≡ y = some_same x y (sym (first_here key (key y) x xs here) ∙ same (key y) ∙ first_here key (key y) y ys refl) in
    let rest : xs ≡ ys = same_lists key xs ys one.1 other.1 (λ n. elim (cases_eq n (key x)) [
      | inl is ↦ none_low key n xs (each _ _ xs (λ z h. omega (arith, is)) one.0)
          ∙ sym (none_low key n ys (each _ _ ys (λ z h. omega (arith, is, here)) other.0))
      | inr apart ↦ sym (first_other key n x xs (λ is. apart (sym is))) ∙ same n ∙ first_other key n y ys (λ is. apart (sym is ∙ sym here))
    ]) in cc
