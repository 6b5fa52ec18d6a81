-- Which lines ask nothing of the history.
use Rattle.lx_script.proofs.Imports.{◌≡◌, ℕ, ◌-◌, ◌≤◌, Bool, true, false, None, List, [], ◌∷◌, length, take, get_or, refl, sym, ap}
use Rattle.lx_script.proofs.Imports.{◌∙◌, ◌==◌, not, arith, take_while, to_ascii_uppercase, nat_tests, Tokens, tokens, is_separator, begins_comment}
use Rattle.lx_script.proofs.Imports.{after_all, undo_meaning, goes, next-token, take-after_all, take_while-yes, after_all-no}
use Rattle.lx_lex.proofs.Separators.{apart}
use Rattle.lx_script.specs.UndoLines.{is_other_letter}

-- a token that begins with such a letter is none of the three words
other_word : (b : ℕ) (token : List ℕ) (rest : Tokens) → is_other_letter b ≡ true → undo_meaning ((b ∷ token) ∷ rest) ≡ None
other_word b token rest other =
    let u : (to_ascii_uppercase b == 85) ≡ false = grind (arith, nat_tests, other) in
    let r : (to_ascii_uppercase b == 82) ≡ false = grind (arith, nat_tests, other) in
    rw (u, r) refl

asks_nothing : (line : List ℕ) (b : ℕ) (more : List ℕ) → line ≡ b ∷ more → is_other_letter b ≡ true → undo_meaning (tokens line) ≡ None
asks_nothing line b more is other =
    let apart_b : is_separator b ≡ false = grind (arith, nat_tests, other) in
    let no_comment : begins_comment b ≡ false = grind (arith, nat_tests, other) in
    let rest : List ℕ = after_all (goes is_separator begins_comment) more in
    let none_skipped : b ∷ more ≡ after_all is_separator (b ∷ more) = sym (after_all-no is_separator b more apart_b) in
    let next = next-token is_separator begins_comment apart (b ∷ more) (b ∷ more) none_skipped b more rest refl no_comment refl in
    let front : take (length (b ∷ more) - length rest) (b ∷ more) ≡ b ∷ take_while (goes is_separator begins_comment) more =
    ap (λ (r : List ℕ). take (length (b ∷ more) - length r) (b ∷ more)) next.1
    ∙ take-after_all (goes is_separator begins_comment) (b ∷ more)
    ∙ take_while-yes (goes is_separator begins_comment) b more (rw (apart_b, no_comment) refl) in
    ap (λ (l : List ℕ). undo_meaning (tokens l)) is ∙ ap undo_meaning (next.0 ∙ ap (λ (t : List ℕ). t ∷ tokens rest) front)
    ∙ other_word b (take_while (goes is_separator begins_comment) more) (tokens rest) other

-- and so of a line whose first byte is one
pub begins_otherwise : (line : List ℕ) → 1 ≤ length line → is_other_letter (get_or line 0 0) ≡ true → undo_meaning (tokens line) ≡ None
begins_otherwise [] filled other = absurd (omega (arith, filled))
begins_otherwise (b ∷ more) filled other = asks_nothing (b ∷ more) b more refl other

pub of_not : (b : Bool) → not b ≡ false → b ≡ true
of_not true is = refl
of_not false is = cc
