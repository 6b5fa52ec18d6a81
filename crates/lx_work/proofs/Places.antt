-- What stands at the places of lists, and of a list with one change.
use Rattle.std.proofs.Common.{◌≡◌, ◌≢◌, ◌⊎◌, inl, inr, ℕ, zero, suc, ◌<◌, List, [], ◌∷◌, ◌++◌, length, set, slice_get, Option, Some, None}
use Rattle.std.proofs.Common.{IsSomeAnd, refl, ap, arith}
use Rattle.std.specs.List.{AllZip}
use Rattle.std.proofs.lemmas.Option.{MatchOption-at_some}
use Rattle.std.proofs.lemmas.Slice.Zip.{AllZip-right}

pub get_within : {A : Type 0} (xs : List A) (k : ℕ) → k < length xs → (x : A) × (slice_get xs k ≡ Some x)
get_within [] k lt = absurd (omega arith)
get_within (x ∷ xs) zero lt = (x, refl)
get_within (x ∷ xs) (suc k) lt = get_within xs k (omega arith)

pub get_left : {A : Type 0} (xs ys : List A) (k : ℕ) (x : A) → slice_get xs k ≡ Some x → slice_get (xs ++ ys) k ≡ Some x
get_left [] ys k x e = absurd cc
get_left (y ∷ xs) ys zero x e = e
get_left (y ∷ xs) ys (suc k) x e = get_left xs ys k x e

pub get_last : {A : Type 0} (xs : List A) (x : A) → slice_get (xs ++ x ∷ []) (length xs) ≡ Some x
get_last [] x = refl
get_last (y ∷ xs) x = get_last xs x

pub get-set_same : {A : Type 0} (xs : List A) (i : ℕ) (w : A) → i < length xs → slice_get (set xs i w) i ≡ Some w
get-set_same [] i w h = absurd (omega arith)
get-set_same (x ∷ xs) zero w h = refl
get-set_same (x ∷ xs) (suc i) w h = get-set_same xs i w (omega arith)

pub get-set_other : {A : Type 0} (xs : List A) (i j : ℕ) (w : A) → j ≢ i → slice_get (set xs i w) j ≡ slice_get xs j
get-set_other [] i j w h = refl
get-set_other (x ∷ xs) zero zero w h = absurd (h refl)
get-set_other (x ∷ xs) zero (suc j) w h = refl
get-set_other (x ∷ xs) (suc i) zero w h = refl
get-set_other (x ∷ xs) (suc i) (suc j) w h = get-set_other xs i j w (λ e. h (ap suc e))

pub get-set_cases : {A : Type 0} (xs : List A) (i j : ℕ) (w x : A) → slice_get (set xs i w) j ≡ Some x → (j ≡ i) ⊎ (slice_get xs j ≡ Some x)
get-set_cases [] i j w x e = inr e
get-set_cases (y ∷ xs) zero zero w x e = inl refl
get-set_cases (y ∷ xs) zero (suc j) w x e = inr e
get-set_cases (y ∷ xs) (suc i) zero w x e = inr e
get-set_cases (y ∷ xs) (suc i) (suc j) w x e = elim (get-set_cases xs i j w x e) [
  | inl same ↦ inl (ap suc same)
  | inr there ↦ inr there
]

there : {A : Type 0} (o : Option A) (P : A → Type 0) → IsSomeAnd o P → (x : A) × (o ≡ Some x) × P x
there None P h = absurd h
there (Some x) P h = (x, refl, h)

-- what goes along with an element of the second of two lists
pub zip_at : {A B : Type 0} (R : A → B → Type 0) (xs : List A) (ys : List B) (k : ℕ) (y : B) → AllZip R xs ys → slice_get ys k ≡ Some y
    → (x : A) × (slice_get xs k ≡ Some x) × R x y
zip_at R xs ys k y h is = there (slice_get xs k) (λ x. R x y)
    (MatchOption-at_some (Unit {0}) (λ z. IsSomeAnd (slice_get xs k) (λ x. R x z)) y is (AllZip-right R xs ys h k))
