-- A phrase that may be absent, where its word is there.
use Rattle.lx_script.proofs.Imports.{◌≡◌, ℕ, Option, Some, List, [], ◌∷◌, ap, inl, inr, cases_Bool, is_word, Tokens, word, optional}

pub optional_there : {A : Type 0} (w : List ℕ) (rest more : Tokens) (follows : Tokens → Option A) (other : Option A)
    → word w rest ≡ Some more → optional w rest follows other ≡ follows more
optional_there w [] more follows other there = cc
optional_there w (token ∷ rest) more follows other there = elim (cases_Bool (is_word w token)) [
  | inl is ↦ let same : rest ≡ more = let h = rw is at there in cc in rw is (ap follows same)
  | inr other_word ↦ let none = rw other_word at there in cc
]
