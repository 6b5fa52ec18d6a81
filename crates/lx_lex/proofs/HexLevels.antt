-- Levels that are letters, as they are read where they stand: two hexadecimal digits behind H, and FL.
use Rattle.lx_lex.proofs.Imports.{◌≡◌, ℕ, ◌+◌, ◌-◌, ◌*◌, ◌≤◌, ◌<◌, Some, true, List, [], ◌∷◌, length, take, drop, get_or, refl, sym, subst}
use Rattle.lx_lex.proofs.Imports.{inl, inr, arith, ◌&&◌, nat_le, cases_Bool, nat_tests, take_all, is_digit, hex_pair, hex_value, is_separator}
use Rattle.lx_lex.proofs.Imports.{begins_comment, tokens, EndsToken, FirstIsLevel}
use Rattle.lx_lex.proofs.FirstTokens.{token_first}
use Rattle.lx_lex.proofs.LineCuts.{goes}

-- a hexadecimal digit is of a token, and its value is small
pub hex_digit : (b : ℕ) {v : ℕ} → hex_value b ≡ Some v → (goes is_separator begins_comment b ≡ true) × (v < 16)
hex_digit b e = elim (cases_Bool (is_digit b)) [
  | inl so ↦ (grind (arith, nat_tests), grind (arith, nat_tests))
  | inr odd ↦ elim (cases_Bool (nat_le 65 b && nat_le b 70)) [
    | inl so ↦ (grind (arith, nat_tests), grind (arith, nat_tests))
    | inr none ↦ elim (cases_Bool (nat_le 97 b && nat_le b 102)) [
      | inl so ↦ (grind (arith, nat_tests), grind (arith, nat_tests))
      | inr other ↦ absurd (let h = rw (odd, none, other) at e in cc)
    ]
  ]
]

-- a line by its places
pub hex_first : {high low : ℕ} (line others : List ℕ) → 3 ≤ length line → get_or line 0 0 ≡ 72 → hex_value (get_or line 1 0) ≡ Some high
    → hex_value (get_or line 2 0) ≡ Some low → EndsToken (take (length line - 3) (drop 3 line)) others
    → FirstIsLevel (tokens line) (16 * high + low) (tokens others)
hex_first [] others long letter first second ends = absurd (omega arith)
hex_first (h ∷ []) others long letter first second ends = absurd (omega arith)
hex_first (h ∷ a ∷ []) others long letter first second ends = absurd (omega arith)
hex_first {high = high} {low = low} (h ∷ a ∷ b ∷ rest) others long letter first second ends =
    let all : take (length (h ∷ a ∷ b ∷ rest) - 3) rest ≡ rest = take_all (length (h ∷ a ∷ b ∷ rest) - 3) rest (omega arith) in
    subst (λ k. FirstIsLevel (tokens (k ∷ a ∷ b ∷ rest)) (16 * high + low) (tokens others)) (sym letter)
    (record {
      token = 72 ∷ a ∷ b ∷ [];
      is_level = (λ i. hex_pair (first i) (second i));
      first = token_first {token = 72 ∷ a ∷ b ∷ []} (omega arith) (rw ((hex_digit a first).0, (hex_digit b second).0) refl)
          (subst (λ zs. EndsToken zs others) all ends);
    })

pub full_first : (line others : List ℕ) → 2 ≤ length line → get_or line 0 0 ≡ 70 → get_or line 1 0 ≡ 76
    → EndsToken (take (length line - 2) (drop 2 line)) others → FirstIsLevel (tokens line) 255 (tokens others)
full_first [] others long first second ends = absurd (omega arith)
full_first (f ∷ []) others long first second ends = absurd (omega arith)
full_first (f ∷ l ∷ rest) others long first second ends =
    let all : take (length (f ∷ l ∷ rest) - 2) rest ≡ rest = take_all (length (f ∷ l ∷ rest) - 2) rest (omega arith) in
    subst (λ k. FirstIsLevel (tokens (k ∷ l ∷ rest)) 255 (tokens others)) (sym first)
    (subst (λ k. FirstIsLevel (tokens (70 ∷ k ∷ rest)) 255 (tokens others)) (sym second)
    (record {
      token = 70 ∷ 76 ∷ [];
      is_level = refl;
      first = token_first {token = 70 ∷ 76 ∷ []} (omega arith) refl (subst (λ zs. EndsToken zs others) all ends);
    }))
