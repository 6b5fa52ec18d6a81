-- Bytes that are written into room, and bytes that are kept back there.
use Rattle.lx_io.proofs.Imports.{◌≡◌, ℕ, ◌+◌, ◌≤◌, List, ◌++◌, length, take, drop, Some, None, sym, ap, ◌∙◌, append_assoc}
use Rattle.lx_io.proofs.Imports.{take-append-drop, Option, Appends, Keeps, take-append-le, length-take-le, take-append-add, with_kept}
use borrow.Rule.Slice.PartMut.{put_mid}

-- a part of the room was written, of which the first bytes count
pub take_of_part : {X : Type 0} (a k : ℕ) (xs ys : List X) (r : ℕ) → a ≤ length xs → r ≤ length ys
    → take (a + r) (put_mid a k xs ys) ≡ take a xs ++ take r ys
take_of_part a k xs ys r p q =
    ap (λ n. take (n + r) (put_mid a k xs ys)) (sym (length-take-le a xs p)) ∙ take-append-add (take a xs) (ys ++ _) r
    ∙ ap (λ v. take a xs ++ v) (take-append-le r ys _ q)

-- the first bytes that were kept back were handed on, and the others are kept
pub kept_on : (old new : Option (List ℕ)) (kept rest : List ℕ) (n : ℕ) → Appends old new (take n kept) → rest ≡ drop n kept
    → Keeps (with_kept old kept) (with_kept new rest)
kept_on None new kept rest n p e = tt
kept_on (Some xs) None kept rest n p e = absurd p
kept_on (Some xs) (Some ys) kept rest n p e =
    ap (λ v. v ++ rest) p ∙ append_assoc xs (take n kept) rest ∙ ap (λ v. xs ++ (take n kept ++ v)) e
    ∙ ap (λ v. xs ++ v) (take-append-drop n kept)
