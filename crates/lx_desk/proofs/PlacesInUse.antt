-- Places of which the first are in use, and the others stand behind them.
use Rattle.lx_desk.proofs.Imports.{◌≡◌, ℕ, zero, suc, ◌<◌, List, [], ◌∷◌, ◌++◌, length, take, drop, slice_get, refl, ap, ◌∙◌}
use Rattle.lx_desk.proofs.Imports.{arith, drop_at, take-append-drop}
use Rattle.std.proofs.lemmas.List.{take_at}

pub record InUse {A : Type 0} (n : ℕ) (places used rest : List A) : Type 0 where
  pub front : used ≡ take n places
  pub count : length used ≡ n
  pub back : rest ≡ drop n places

-- what stands at a place of a front of a list, and in a list with more behind it
pub get_take : {A : Type 0} (n k : ℕ) (xs : List A) → k < n → slice_get (take n xs) k ≡ slice_get xs k
get_take zero k xs lt = absurd (omega arith)
get_take (suc n) k [] lt = refl
get_take (suc n) zero (x ∷ xs) lt = refl
get_take (suc n) (suc k) (x ∷ xs) lt = get_take n k xs (omega arith)

get_before : {A : Type 0} (xs ys : List A) (k : ℕ) → k < length xs → slice_get (xs ++ ys) k ≡ slice_get xs k
get_before [] ys k lt = absurd (omega arith)
get_before (x ∷ xs) ys zero lt = refl
get_before (x ∷ xs) ys (suc k) lt = get_before xs ys k (omega arith)

module _ {A : Type 0} {n : ℕ} {places used rest : List A} (i : InUse n places used rest) where
  pub at_used : (place : ℕ) → place < n → slice_get used place ≡ slice_get places place
  at_used place within = ap (λ l. slice_get l place) i.front ∙ get_take n place places within

  -- others in the places that are in use
  module _ (used' : List A) where
    -- unchanged
    pub joined : used' ≡ used → used' ++ rest ≡ places
    joined same = ap (λ l. l ++ rest) (same ∙ i.front) ∙ ap (λ l. take n places ++ l) i.back ∙ take-append-drop n places

    module _ (same : length used' ≡ length used) where
      pub at_back : (place : ℕ) → place < n → slice_get (used' ++ rest) place ≡ slice_get used' place
      at_back place within = let count = i.count in get_before used' rest place (omega (arith, within, count, same))

      pub take_back : take n (used' ++ rest) ≡ used'
      take_back = take_at used' rest n (same ∙ i.count)

      pub drop_back : drop n (used' ++ rest) ≡ drop n places
      drop_back = drop_at used' rest n (same ∙ i.count) ∙ i.back
