-- Texts that are equal but for the case of their letters.
use Rattle.lx_lex.proofs.Imports.{◌≡◌, ℕ, Bool, true, List, [], ◌∷◌, map, refl, sym, ap, ◌∙◌, IsTrue, ◌↔◌, arith, nat_tests}
use Rattle.lx_lex.proofs.Imports.{same_from_decides, bytes_eq-Decides}
use Rattle.std.specs.Char.{to_ascii_uppercase, to_ascii_lowercase}
use Rattle.std.specs.Str.{bytes_eq}

upper-lower : (b : ℕ) → to_ascii_uppercase (to_ascii_lowercase b) ≡ to_ascii_uppercase b
upper-lower b = grind (arith, nat_tests)

lower-upper : (b : ℕ) → to_ascii_lowercase (to_ascii_uppercase b) ≡ to_ascii_lowercase b
lower-upper b = grind (arith, nat_tests)

module _ (f g : ℕ → ℕ) (undone : (b : ℕ) → f (g b) ≡ f b) where
  map-undone : (t : List ℕ) → map f (map g t) ≡ map f t
  map-undone [] = refl
  map-undone (b ∷ t) = rw (undone b, map-undone t) refl

  same-by : (s t : List ℕ) → map g s ≡ map g t → map f s ≡ map f t
  same-by s t e = sym (map-undone s) ∙ ap (λ l. map f l) e ∙ map-undone t

-- equal in lower case is equal in upper case
pub same_letters : (s t : List ℕ) (r : Bool) → IsTrue r ↔ (map to_ascii_lowercase s ≡ map to_ascii_lowercase t)
    → r ≡ bytes_eq (map to_ascii_uppercase s) (map to_ascii_uppercase t)
same_letters s t r h =
    let d = bytes_eq-Decides (map to_ascii_uppercase s) (map to_ascii_uppercase t) in
    let to : r ≡ true → map to_ascii_uppercase s ≡ map to_ascii_uppercase t =
    λ e. same-by to_ascii_uppercase to_ascii_lowercase upper-lower s t (h.0 e) in
    let from : map to_ascii_uppercase s ≡ map to_ascii_uppercase t → r ≡ true =
    λ e. h.1 (same-by to_ascii_lowercase to_ascii_uppercase lower-upper s t e) in
    same_from_decides r _ (to, from) d
