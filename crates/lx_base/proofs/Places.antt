-- What holds of each element of a list at its place.
use Rattle.std.proofs.Common.{◌≡◌, ℕ, zero, suc, List, [], ◌∷◌, ◌++◌, length, refl, subst, arith}
use Rattle.lx_base.specs.Places.{EachAt}

-- of one element more
pub each_snoc : {A : Type 0} (P : ℕ → A → Type 0) (xs : List A) (x : A) (n : ℕ) → EachAt P xs → n ≡ length xs → P n x
    → EachAt P (xs ++ x ∷ [])
each_snoc P [] x n h e p zero y is = let same : x ≡ y = cc in subst (λ z. P zero z) same (subst (λ k. P k x) e p)
each_snoc P [] x n h e p (suc k) y is = absurd cc
each_snoc P (z ∷ xs) x n h e p zero y is = h zero y is
each_snoc P (z ∷ xs) x n h e p (suc k) y is =
    each_snoc (λ i. P (suc i)) xs x (length xs) (λ i w q. h (suc i) w q) refl
    (subst (λ i. P i x) (let t : n ≡ suc (length xs) = omega (arith, e) in t) p) k y is
