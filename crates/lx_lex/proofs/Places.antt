-- The first place at which a test passes.
use Rattle.lx_lex.proofs.Imports.{◌≡◌, ℕ, ◌+◌, ◌<◌, ◌≤◌, Bool, true, false, nat_lt, List, [], ◌∷◌, length, Some, None, refl, inl}
use Rattle.lx_lex.proofs.Imports.{inr, arith, list_any, before_first, after_first, position, position_or_len, cases_Bool, nat_tests, take_all, drop_all}

module _ (p : ℕ → Bool) where
  pub list_any-position : (l : List ℕ) → list_any p l ≡ nat_lt (position_or_len p l) (length l)
  list_any-position [] = refl
  list_any-position (b ∷ l) = elim (cases_Bool (p b)) [
    | inl so ↦ rw so (grind (arith, nat_tests))
    | inr odd ↦ let h = list_any-position l in rw odd (grind (arith, nat_tests))
  ]

  pub position-none : (l : List ℕ) → position p l ≡ None → list_any p l ≡ false
  position-none l e = let h = list_any-position l in grind (arith, nat_tests)

  pub position-some : (l : List ℕ) (k : ℕ) → position p l ≡ Some k → (list_any p l ≡ true) × (position_or_len p l ≡ k) × (k < length l)
  position-some l k e = let h = list_any-position l in grind (arith, nat_tests)

  -- where none passes, all stand before the first
  pub before_first-none : (l : List ℕ) → list_any p l ≡ false → before_first p l ≡ l
  before_first-none l e =
      let h : length l ≤ position_or_len p l = let h = list_any-position l in grind (arith, nat_tests) in
      take_all (position_or_len p l) l h

  pub after_first-none : (l : List ℕ) → list_any p l ≡ false → after_first p l ≡ []
  after_first-none l e =
      let h : length l ≤ position_or_len p l = let h = list_any-position l in grind (arith, nat_tests) in
      drop_all (position_or_len p l + 1) l (omega arith)
