-- A relation at each place of two lists that are put together.
use Rattle.std.proofs.Common.{◌≡◌, ℕ, List, [], ◌∷◌, ◌++◌, take, drop, subst, take-append-drop}
use Rattle.std.specs.List.{AllZip}

pub AllZip-both : {A : Type 0} (R : A → A → Type 0) (xs ys zs ws : List A) → AllZip R xs ys → AllZip R zs ws
    → AllZip R (xs ++ zs) (ys ++ ws)
AllZip-both R [] [] zs ws p q = q
AllZip-both R [] (y ∷ ys) zs ws p q = absurd p
AllZip-both R (x ∷ xs) [] zs ws p q = absurd p
AllZip-both R (x ∷ xs) (y ∷ ys) zs ws p q = (p.0, AllZip-both R xs ys zs ws p.1 q)

pub AllZip-halves : {A : Type 0} (R : A → A → Type 0) (k : ℕ) (xs front back ys ws : List A) → front ≡ take k xs → back ≡ drop k xs
    → AllZip R front ys → AllZip R back ws → AllZip R xs (ys ++ ws)
AllZip-halves R k xs front back ys ws e d p q =
    subst (λ v. AllZip R v (ys ++ ws)) (take-append-drop k xs)
    (AllZip-both R (take k xs) ys (drop k xs) ws (subst (λ v. AllZip R v ys) e p) (subst (λ v. AllZip R v ws) d q))
