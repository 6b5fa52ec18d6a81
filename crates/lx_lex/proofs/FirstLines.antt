-- The bytes of the first lines.
use Rattle.lx_lex.proofs.Imports.{◌≡◌, inl, inr, ℕ, zero, suc, ◌+◌, ◌≤◌, Bool, true, false, List, [], ◌∷◌, ◌++◌, length, refl, sym}
use Rattle.lx_lex.proofs.Imports.{ap, ◌∙◌, arith, zero-add, ne_eqb, cases_eq, eq-eqb, HasNoFeed, first_lines, cut_lines, feed_of}

-- a line with its LF, and the rest
pub cut_lines-feed : (raw rest : List ℕ) → HasNoFeed raw → cut_lines (raw ++ 10 ∷ rest) ≡ raw ∷ cut_lines rest
cut_lines-feed [] rest h = refl
cut_lines-feed (b ∷ raw) rest h = rw (ne_eqb b 10 h.0, cut_lines-feed raw rest h.1) refl

-- the last line, without LF
pub cut_lines-last : (b : ℕ) (raw : List ℕ) → HasNoFeed (b ∷ raw) → cut_lines (b ∷ raw) ≡ (b ∷ raw) ∷ []
cut_lines-last b [] h = rw (ne_eqb b 10 h.0) refl
cut_lines-last b (d ∷ raw) h = rw (ne_eqb b 10 h.0, cut_lines-last d raw h.1) refl

-- the bytes of m lines and n more, where these bytes are those of m
pub first_lines-more : (m n : ℕ) (xs ys : List ℕ) → xs ≡ first_lines m (xs ++ ys) → first_lines (m + n) (xs ++ ys) ≡ xs ++ first_lines n ys
first_lines-more m n [] [] h = refl
first_lines-more zero n [] (y ∷ ys) h = ap (λ k. first_lines k (y ∷ ys)) (zero-add n)
first_lines-more (suc m) n [] (y ∷ ys) h = cc
first_lines-more zero n (x ∷ xs) ys h = cc
first_lines-more (suc m) n (x ∷ xs) ys h =
    let e : suc m + n ≡ suc (m + n) = omega arith in
    rw e (elim (cases_eq x 10) [
      | inl is ↦
          let both = rw (eq-eqb x 10 is) at h in
          let tail : xs ≡ first_lines m (xs ++ ys) = cc in
          rw (eq-eqb x 10 is) (ap (λ v. x ∷ v) (first_lines-more m n xs ys tail))
      | inr ne ↦
          let both = rw (ne_eqb x 10 ne) at h in
          let tail : xs ≡ first_lines (suc m) (xs ++ ys) = cc in
          rw (ne_eqb x 10 ne) (ap (λ v. x ∷ v) (ap (λ k. first_lines k (xs ++ ys)) (sym e) ∙ first_lines-more (suc m) n xs ys tail))
    ])

-- more lines have no fewer bytes
pub first_lines-longer : (j k : ℕ) (xs : List ℕ) → j ≤ k → length (first_lines j xs) ≤ length (first_lines k xs)
first_lines-longer j k [] h = omega arith
first_lines-longer zero k (x ∷ xs) h = omega arith
first_lines-longer (suc j) zero (x ∷ xs) h = absurd (omega (arith, h))
first_lines-longer (suc j) (suc k) (x ∷ xs) h = elim (cases_eq x 10) [
  | inl is ↦ rw (eq-eqb x 10 is) (omega (arith, first_lines-longer j k xs (omega (arith, h))))
  | inr ne ↦ rw (ne_eqb x 10 ne) (omega (arith, first_lines-longer (suc j) (suc k) xs h))
]

pub first_lines-none : (xs : List ℕ) → first_lines 0 xs ≡ []
first_lines-none [] = refl
first_lines-none (x ∷ xs) = refl

-- a line that has its LF
pub first_lines-feed : (raw rest : List ℕ) → HasNoFeed raw → raw ++ 10 ∷ [] ≡ first_lines 1 ((raw ++ 10 ∷ []) ++ rest)
first_lines-feed [] rest h = ap (λ v. 10 ∷ v) (sym (first_lines-none rest))
first_lines-feed (b ∷ raw) rest h = rw (ne_eqb b 10 h.0) (ap (λ v. b ∷ v) (first_lines-feed raw rest h.1))

-- a line without LF
pub first_lines-last : (raw : List ℕ) → HasNoFeed raw → raw ≡ first_lines 1 raw
first_lines-last [] h = refl
first_lines-last (b ∷ raw) h = rw (ne_eqb b 10 h.0) (ap (λ v. b ∷ v) (first_lines-last raw h.1))

-- a front of a line
pub first_lines-front : (raw rest : List ℕ) (fed : Bool) → HasNoFeed raw
    → length (raw ++ feed_of fed) ≤ length (first_lines 1 ((raw ++ feed_of fed) ++ rest))
first_lines-front [] rest true h = omega arith
first_lines-front [] rest false h = omega arith
first_lines-front (b ∷ raw) rest fed h = rw (ne_eqb b 10 h.0) (omega (arith, first_lines-front raw rest fed h.1))
