-- A token that stands at the front of a line.
use Rattle.lx_lex.proofs.Imports.{◌≡◌, ℕ, ◌-◌, ◌<◌, Bool, true, List, [], ◌∷◌, ◌++◌, length, take, refl, sym, ap, ◌∙◌, arith, list_all}
use Rattle.lx_lex.proofs.Imports.{common_steps, length-append, take-append_seam, is_filled, is_separator, begins_comment, after_all, take_while, tokens}
use Rattle.lx_lex.proofs.Imports.{EndsToken, filter}
use Rattle.lx_lex.proofs.Separators.{apart}
use Rattle.lx_lex.proofs.LineCuts.{goes, part, take-after_all}

after_all-append : (p : ℕ → Bool) (xs ys : List ℕ) → list_all p xs ≡ true → after_all p (xs ++ ys) ≡ after_all p ys
after_all-append p [] ys all = refl
after_all-append p (x ∷ xs) ys all =
    let more : list_all p xs ≡ true → after_all p (xs ++ ys) ≡ after_all p ys = after_all-append p xs ys in grind (arith, common_steps)

filled : (token : List ℕ) → 0 < length token → is_filled token ≡ true
filled [] some = absurd (omega arith)
filled (b ∷ token) some = refl

-- bytes of a token, where it ends behind them
pub token_first : {token rest others : List ℕ} → 0 < length token → list_all (goes is_separator begins_comment) token ≡ true
    → EndsToken rest others → tokens (token ++ rest) ≡ token ∷ tokens others
token_first {token = token} {rest = rest} some all ends =
    let line : List ℕ = token ++ rest in
    let go : ℕ → Bool = goes is_separator begins_comment in
    let after : after_all go line ≡ rest = after_all-append go token rest all ∙ ends.ends in
    let size : length line - length rest ≡ length token = omega (arith, length-append token rest) in
    let front : take_while go line ≡ token = sym (take-after_all go line) ∙ ap (λ xs. take (length line - length xs) line) after
    ∙ ap (λ k. take k line) size ∙ take-append_seam token rest in
    let p = part is_separator begins_comment apart line in
    ap (λ (parts : List (List ℕ)). filter is_filled parts) (p.cut ∙ ap (λ t. t ∷ p.others) front)
    ∙ (rw (filled token some) (ap (λ ts. token ∷ ts) (p.rest ∙ ap tokens after ∙ ends.same)))
