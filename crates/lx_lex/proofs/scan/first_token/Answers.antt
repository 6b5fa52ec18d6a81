use Rattle.lx_lex.proofs.Imports.{◌≡◌, ◌∷◌, [], List, ℕ, ◌≤◌, ◌<◌, false, length, drop, get_or, refl, sym, take, ◌-◌, ◌∙◌, ap}
use Rattle.lx_lex.proofs.Imports.{arith, nat_tests, take_all, is_separator, begins_comment, after_all}
use Rattle.lx_lex.proofs.Separators.{apart}
use Rattle.lx_lex.proofs.LineCuts.{next-nothing, next-comment, next-token, goes}
use Rattle.lx_lex.proofs.scan.first_token.Goals as goal

none : (l : List ℕ) → length l < 1 → l ≡ []
none [] h = refl
none (b ∷ l) h = absurd (omega arith)

first : (l : List ℕ) → 1 ≤ length l → l ≡ get_or l 0 0 ∷ take (length l - 1) (drop 1 l)
first [] h = absurd (omega arith)
first (b ∷ l) h = ap (λ t. b ∷ t) (sym (take_all (length (b ∷ l) - 1) l (omega arith)))

pub returns-in_default : goal.returns-in_default
returns-in_default c =
    next-nothing is_separator begins_comment apart c.args.line.now _ c.past_separators-start.ensures (none _ c.in_default.len_below)

pub returns-then-b-eq33 : goal.returns-then-b-eq33
returns-then-b-eq33 c =
    let e = c.if-b-eq33.true in
    next-comment is_separator begins_comment apart c.args.line.now _ c.past_separators-start.ensures _ _ (first _ c.in-len1-up.len_at_least)
    (rw e refl)

pub returns : goal.returns
returns c =
    let e = c.if-b-eq33.false in
    let odd : begins_comment (get_or c.past_separators-start.result.now 0 0) ≡ false = grind (arith, nat_tests) in
    let h = next-token is_separator begins_comment apart c.args.line.now _ c.past_separators-start.ensures _ _ c.past_token-rest.result.now
    (first _ c.in-len1-up.len_at_least) odd c.past_token-rest.ensures.rest in
    (h.0, h.1 ∙ ap (after_all (goes is_separator begins_comment)) c.past_separators-start.ensures)
