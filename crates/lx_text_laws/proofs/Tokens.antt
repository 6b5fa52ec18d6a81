-- The tokens and lines of a text whose words are plain.
use Rattle.lx_text_laws.proofs.Imports.{not-true, filter, length, ◌<◌, ◌≡◌, ℕ, Bool, true, false, not, ◌||◌, ◌&&◌, ◌==◌, List, [], ◌∷◌, ◌++◌, map}
use Rattle.lx_text_laws.proofs.Imports.{refl, list_all, before_first, arith, ap, ◌∙◌, sym, and_parts, nat_tests, common_steps, is_separator}
use Rattle.lx_text_laws.proofs.Imports.{begins_comment, is_filled, cut_lines, without_cr, lines_of, tokens, after_first, list_any, append-nil}
use Rattle.std.proofs.lemmas.List.Folds.{list_all-append}
use Rattle.lx_lex.proofs.FirstTokens.{token_first}
use Rattle.lx_lex.proofs.LineCuts.{after_all-no, before_first-no, goes, tokens_by-separator}
use Rattle.lx_lex.proofs.Separators.{apart}

-- no line end
abbrev pub stays : ℕ → Bool
stays b = not (b == 13 || b == 10)

-- no separator, no comment and no line end
abbrev pub is_plain : ℕ → Bool
is_plain b = not (is_separator b) && (not (begins_comment b) && stays b)

-- What passes over a text of which no byte fits a test.
module _ (p : ℕ → Bool) where
  abbrev pub Without : List ℕ → Type 0
  Without w = list_all (λ b. not (p b)) w ≡ true

  step : (b : ℕ) (w : List ℕ) → Without (b ∷ w) → (p b ≡ false) × Without w
  step b w all = let parts = and_parts (not (p b)) (list_all (λ x. not (p x)) w) all in (not-true (p b) parts.0, parts.1)

  after-step : (b : ℕ) (l : List ℕ) → p b ≡ false → after_first p (b ∷ l) ≡ after_first p l
  after-step b l e = grind (arith, common_steps)

  pub before-past : (w l : List ℕ) → Without w → before_first p (w ++ l) ≡ w ++ before_first p l
  before-past [] l all = refl
  before-past (b ∷ w) l all =
      let parts = step b w all in before_first-no p b (w ++ l) parts.0 ∙ ap (λ v. b ∷ v) (before-past w l parts.1)

  pub after-past : (w l : List ℕ) → Without w → after_first p (w ++ l) ≡ after_first p l
  after-past [] l all = refl
  after-past (b ∷ w) l all = let parts = step b w all in after-step b (w ++ l) parts.0 ∙ after-past w l parts.1

  pub any-past : (w l : List ℕ) → Without w → list_any p (w ++ l) ≡ list_any p l
  any-past [] l all = refl
  any-past (b ∷ w) l all = let parts = step b w all in ap (λ v. v || list_any p (w ++ l)) parts.0 ∙ any-past w l parts.1

-- a test of all bytes, over joined texts
pub all-append : (test : ℕ → Bool) (a b : List ℕ) → list_all test a ≡ true → list_all test b ≡ true → list_all test (a ++ b) ≡ true
all-append test a b one other = list_all-append test a b ∙ (λ j. one j && other j)

pub all-weaker : (test other : ℕ → Bool) (a : List ℕ) → ((b : ℕ) → test b ≡ true → other b ≡ true) → list_all test a ≡ true
    → list_all other a ≡ true
all-weaker test other [] weaker all = refl
all-weaker test other (x ∷ a) weaker all =
    let parts = and_parts (test x) (list_all test a) all in
    ap (λ v. v && list_all other a) (weaker x parts.0) ∙ all-weaker test other a weaker parts.1

pub filter_kept : (test : ℕ → Bool) (xs : List ℕ) → list_all test xs ≡ true → filter test xs ≡ xs
filter_kept test [] all = refl
filter_kept test (x ∷ xs) all =
    let parts = and_parts (test x) (list_all test xs) all in rw parts.0 (ap (λ v. x ∷ v) (filter_kept test xs parts.1))

some_there : (w : List ℕ) → is_filled w ≡ true → 0 < length w
some_there [] filled = cc
some_there (b ∷ w) filled = omega arith

module _ (w : List ℕ) (plain : list_all is_plain w ≡ true) (filled : is_filled w ≡ true) where
  goes_on : list_all (goes is_separator begins_comment) w ≡ true
  goes_on = all-weaker is_plain (goes is_separator begins_comment) w (λ b is. grind (arith, nat_tests, is)) plain

  -- a word and what follows it after a separator
  pub tokens-at : (s : ℕ) (l : List ℕ) → is_separator s ≡ true → tokens (w ++ s ∷ l) ≡ w ∷ tokens l
  tokens-at s l sep = token_first {others = l} (some_there w filled) goes_on (record {
    ends = after_all-no (goes is_separator begins_comment) s l (λ j. not (sep j || begins_comment s));
    same = tokens_by-separator is_separator begins_comment apart s l sep;
  })

  -- a word alone
  pub tokens-last : tokens w ≡ w ∷ []
  tokens-last = (λ j. tokens (sym (append-nil w) j))
      ∙ token_first {others = []} (some_there w filled) goes_on (record { ends = refl; same = refl })

-- a line whose bytes stay, and what follows it
cut_lines-line : (body rest : List ℕ) → list_all stays body ≡ true → cut_lines (body ++ 10 ∷ rest) ≡ body ∷ cut_lines rest
cut_lines-line [] rest all = refl
cut_lines-line (b ∷ body) rest all =
    let parts = and_parts (stays b) (list_all stays body) all in
    let odd : (b == 10) ≡ false = grind (arith, nat_tests, parts.0) in
    rw (odd, cut_lines-line body rest parts.1)

pub lines_of-line : (body rest : List ℕ) → list_all stays body ≡ true → lines_of (body ++ 10 ∷ rest) ≡ body ∷ lines_of rest
lines_of-line body rest all = (λ j. map without_cr (cut_lines-line body rest all j))
    ∙ ap (λ v. v ∷ lines_of rest)
    (filter_kept (λ b. not (b == 13)) body (all-weaker stays (λ b. not (b == 13)) body (λ b is. grind (arith, nat_tests, is)) all))
