-- Lists in which entries were written.
use Rattle.lx_levels.proofs.Imports.{◌≡◌, ◌≢◌, ℕ, ◌<◌, List, ◌++◌, length, take, drop, arith, common_steps, get_or, set, inl, inr, sym, subst}
use Rattle.lx_levels.proofs.Imports.{cases_eq, get_or-set_other, get_or-set_same, set-set, ◌∙◌, ap}

-- a row written over the whole of a longer one, and its first entries
pub written : {A : Type 0} (n : ℕ) (xs ys : List A) → length xs ≡ n → take n (xs ++ drop (length xs) ys) ≡ xs
written n xs ys is = grind (arith, common_steps)

-- what holds of the new entry, and of each other one, holds of each
pub after_set : {A : Type 0} (P : ℕ → A → Type 0) (xs : List A) (k : ℕ) (x d : A) (i : ℕ) → k < length xs → P k x → (i ≢ k → P i (get_or xs i d))
    → P i (get_or (set xs k x) i d)
after_set P xs k x d i within here other = elim (cases_eq i k) [
  | inl same ↦ subst (λ j. P j (get_or (set xs k x) j d)) (sym same) (subst (P k) (sym (get_or-set_same xs k x d within)) here)
  | inr apart ↦ subst (P i) (sym (get_or-set_other xs k i x d apart)) (other apart)
]

-- what was written at a place is there
module _ {A : Type 0} (old : List A) {new : List A} (k : ℕ) (x d : A) (within : k < length old) (is : new ≡ set old k x) where
  pub set_here : get_or new k d ≡ x
  set_here = ap (λ (xs : List A). get_or xs k d) is ∙ get_or-set_same old k x d within

  pub set_there : new ≡ set old k (get_or new k d)
  set_there = is ∙ ap (set old k) (sym set_here)

-- a place is written again
pub set_again : {A : Type 0} (old : List A) {now new : List A} (k : ℕ) (x y : A) → now ≡ set old k x → new ≡ set now k y → new ≡ set old k y
set_again old k x y is next = next ∙ ap (λ xs. set xs k y) is ∙ set-set old k x y
