-- How a line is cut into tokens, whatever the tests for separators and for the comment are.
use Rattle.lx_lex.proofs.Imports.{◌≡◌, ℕ, suc, ◌+◌, ◌-◌, ◌≤◌, Bool, true, false, not, ◌||◌, ◌==◌, List, [], ◌∷◌, length, take}
use Rattle.lx_lex.proofs.Imports.{filter, refl, sym, ap, ◌∙◌, inl, inr, arith, before_first, slice_split, take_while, position_or_len}
use Rattle.lx_lex.proofs.Imports.{cases_Bool, length-take, common_steps, is_filled, after_all}
use Rattle.std.proofs.lemmas.List.Splits.{length-slice_split, slice_split-cons_yes, slice_split-cons_no}
use Rattle.std.proofs.lemmas.List.Sums.{count_by-le-length, length-filter}

module _ (p : ℕ → Bool) where
  pub before_first-yes : (b : ℕ) (l : List ℕ) → p b ≡ true → before_first p (b ∷ l) ≡ []
  before_first-yes b l e = grind (arith, common_steps)

  pub before_first-no : (b : ℕ) (l : List ℕ) → p b ≡ false → before_first p (b ∷ l) ≡ b ∷ before_first p l
  before_first-no b l e = grind (arith, common_steps)

  pub take_while-yes : (b : ℕ) (l : List ℕ) → p b ≡ true → take_while p (b ∷ l) ≡ b ∷ take_while p l
  take_while-yes b l e = grind (arith, common_steps)

  pub take_while-no : (b : ℕ) (l : List ℕ) → p b ≡ false → take_while p (b ∷ l) ≡ []
  take_while-no b l e = grind (arith, common_steps)

  pub after_all-yes : (b : ℕ) (l : List ℕ) → p b ≡ true → after_all p (b ∷ l) ≡ after_all p l
  after_all-yes b l e = rw e

  pub after_all-no : (b : ℕ) (l : List ℕ) → p b ≡ false → after_all p (b ∷ l) ≡ b ∷ l
  after_all-no b l e = rw e

  pub length-after_all : (l : List ℕ) → length (after_all p l) ≤ length l
  length-after_all [] = omega arith
  length-after_all (b ∷ l) = elim (cases_Bool (p b)) [
    | inl so ↦ rw (after_all-yes b l so) (omega (arith, length-after_all l))
    | inr odd ↦ rw (after_all-no b l odd) (omega arith)
  ]

  -- the front that passes is what stands before the rest
  pub take-after_all : (l : List ℕ) → take (length l - length (after_all p l)) l ≡ take_while p l
  take-after_all [] = refl
  take-after_all (b ∷ l) = elim (cases_Bool (p b)) [
    | inl so ↦ let e : length (b ∷ l) - length (after_all p l) ≡ suc (length l - length (after_all p l)) =
        omega (arith, length-after_all l) in rw (after_all-yes b l so, take_while-yes b l so, e) (ap (λ t. b ∷ t) (take-after_all l))
    | inr odd ↦ rw (after_all-no b l odd, take_while-no b l odd) (grind (arith, common_steps))
  ]

  -- the first that is left doesn't pass
  pub after_all-first : (m : List ℕ) (b : ℕ) (l : List ℕ) → b ∷ l ≡ after_all p m → p b ≡ false
  after_all-first [] b l e = cc
  after_all-first (d ∷ m) b l e = elim (cases_Bool (p d)) [
    | inl so ↦ after_all-first m b l (e ∙ after_all-yes d m so)
    | inr odd ↦ let h : b ∷ l ≡ d ∷ m = e ∙ after_all-no d m odd in let k : b ≡ d = cc in rw k odd
  ]

pub is_filled-length : (t : List ℕ) (r : Bool) → r ≡ (length t == 0) → is_filled t ≡ not r
is_filled-length [] r e = rw e refl
is_filled-length (b ∷ t) r e = rw e (grind (arith, common_steps))

module _ (sep mark : ℕ → Bool) where
  abbrev pub tokens_by : List ℕ → List (List ℕ)
  tokens_by line = filter is_filled (slice_split sep (before_first mark line))

  -- a byte of a token
  abbrev pub goes : ℕ → Bool
  goes b = not (sep b || mark b)

  module _ (apart : (b : ℕ) → sep b ≡ true → mark b ≡ false) where
    pub tokens_by-separator : (b : ℕ) (l : List ℕ) → sep b ≡ true → tokens_by (b ∷ l) ≡ tokens_by l
    tokens_by-separator b l e =
        ap (λ t. filter is_filled (slice_split sep t)) (before_first-no mark b l (apart b e))
        ∙ ap (λ t. filter is_filled t) (slice_split-cons_yes sep b (before_first mark l) e)

    -- separators at the front make no token
    pub tokens_by-skip : (l : List ℕ) → tokens_by l ≡ tokens_by (after_all sep l)
    tokens_by-skip [] = refl
    tokens_by-skip (b ∷ l) = elim (cases_Bool (sep b)) [
      | inl so ↦ rw (after_all-yes sep b l so) (tokens_by-separator b l so ∙ tokens_by-skip l)
      | inr odd ↦ rw (after_all-no sep b l odd) refl
    ]

  -- a comment has no token
  pub tokens_by-comment : (b : ℕ) (l : List ℕ) → mark b ≡ true → tokens_by (b ∷ l) ≡ []
  tokens_by-comment b l e = ap (λ t. filter is_filled (slice_split sep t)) (before_first-yes mark b l e)

  -- the first part of a line, up to a separator or its comment, and the tokens behind it
  pub record FirstPart (line : List ℕ) : Type 0 where
    pub others : List (List ℕ)
    pub cut : slice_split sep (before_first mark line) ≡ take_while goes line ∷ others
    pub rest : filter is_filled others ≡ tokens_by (after_all goes line)

  module _ (apart : (b : ℕ) → sep b ≡ true → mark b ≡ false) where
    pub part : (l : List ℕ) → FirstPart l
    part [] = record { others = []; cut = refl; rest = refl }
    part (b ∷ l) = elim (cases_Bool (mark b)) [
      | inl so ↦
          let stops : goes b ≡ false = grind (arith, common_steps) in
          record {
            others = [];
            cut = rw (before_first-yes mark b l so, take_while-no goes b l stops) refl;
            rest = rw (after_all-no goes b l stops) (sym (tokens_by-comment b l so));
          }
      | inr odd ↦ elim (cases_Bool (sep b)) [
        | inl so ↦
            let stops : goes b ≡ false = rw so refl in
            record {
              others = slice_split sep (before_first mark l);
              cut = rw (before_first-no mark b l odd, slice_split-cons_yes sep b (before_first mark l) so, take_while-no goes b l stops) refl;
              rest = rw (after_all-no goes b l stops) (sym (tokens_by-separator apart b l so));
            }
        | inr other ↦
            let on : goes b ≡ true = rw (other, odd) refl in
            let h = part l in
            record {
              others = h.others;
              cut = rw (before_first-no mark b l odd, slice_split-cons_no sep b (before_first mark l) other, h.cut, take_while-yes goes b l on) refl;
              rest = rw (after_all-yes goes b l on) h.rest;
            }
      ]
    ]

    -- what is read at the front of a line m: l follows its separators
    module _ (m l : List ℕ) (skipped : l ≡ after_all sep m) where
      begins : tokens_by m ≡ tokens_by l
      begins = tokens_by-skip apart m ∙ ap tokens_by (sym skipped)

      pub next-nothing : l ≡ [] → tokens_by m ≡ []
      next-nothing e = begins ∙ ap tokens_by e

      pub next-comment : (b : ℕ) (t : List ℕ) → l ≡ b ∷ t → mark b ≡ true → tokens_by m ≡ []
      next-comment b t e so = begins ∙ ap tokens_by e ∙ tokens_by-comment b t so

      -- r follows the token that begins with b
      pub next-token : (b : ℕ) (t r : List ℕ) → l ≡ b ∷ t → mark b ≡ false → r ≡ after_all goes t
          → (tokens_by m ≡ take (length l - length r) l ∷ tokens_by r) × (r ≡ after_all goes l)
      next-token b t r e odd read =
          let s : sep b ≡ false = after_all-first sep m b t (sym e ∙ skipped) in
          let g : goes b ≡ true = rw (s, odd) refl in
          let after : r ≡ after_all goes l = read ∙ sym (after_all-yes goes b t g) ∙ ap (after_all goes) (sym e) in
          let front : take (length l - length r) l ≡ take_while goes l = rw after (take-after_all goes l) in
          let filled : is_filled (take_while goes l) ≡ true = rw (e, take_while-yes goes b t g) refl in
          let h = part l in
          (rw (front, after) (begins ∙ (rw (h.cut, filled, h.rest) refl)), after)

  -- at most one token more than bytes
  pub tokens_few : (l : List ℕ) → length (tokens_by l) ≤ length l + 1
  tokens_few l =
      let front : List ℕ = before_first mark l in
      omega (
        arith,
        length-filter is_filled (slice_split sep front),
        count_by-le-length is_filled (slice_split sep front),
        length-slice_split sep front,
        count_by-le-length sep front,
        length-take {A = ℕ} (position_or_len mark l) l,
      )
