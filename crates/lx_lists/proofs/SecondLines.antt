-- Lines for the second list: such a line means nothing else, and none ends the script.
use Rattle.lx_lists.proofs.Imports.{◌≡◌, ℕ, true, false, None, List, [], ◌∷◌, refl, sym, ap, subst, inl, inr, nat_lt, length}
use Rattle.lx_lists.proofs.Imports.{codes, LINE_BYTES, line_of, meaning, ends_script, is_quit, is_for_second, leads_with_two}
use Rattle.std.specs.Str.{bytes_eq}
use Rattle.std.proofs.lemmas.Bool.{cases_Bool}
use Rattle.std.proofs.lemmas.Slice.Eq.{bytes_eq-Decides}
use Rattle.lx_spec.specs.Text.{tokens}
use Rattle.lx_spec.specs.Phrase.{Tokens}

no_word : (line token : List ℕ) (rest : Tokens) → bytes_eq token (codes "2") ≡ true → meaning line (token ∷ rest) ≡ None
no_word line token rest is =
    let two : token ≡ codes "2" = (bytes_eq-Decides token (codes "2")).0 is in
    subst (λ (t : List ℕ). meaning line (t ∷ rest) ≡ None) (sym two) refl

no_words : (line : List ℕ) (found : List (List ℕ)) → leads_with_two found ≡ true → meaning line found ≡ None
no_words line [] is = cc
no_words line (token ∷ rest) is = no_word line token rest is

pub means_nothing : (line : List ℕ) → is_for_second line ≡ true → line_of line ≡ None
means_nothing line is = elim (cases_Bool (nat_lt LINE_BYTES (length line))) [
  | inl long ↦ rw long refl
  | inr short ↦ let leads = rw short at is in rw short (no_words line (tokens line) leads)
]

pub goes_on : (line : List ℕ) → is_for_second line ≡ true → ends_script line ≡ false
goes_on line is = ap is_quit (means_nothing line is)

pub quit_is_first : (line : List ℕ) → ends_script line ≡ true → is_for_second line ≡ false
quit_is_first line quit = elim (cases_Bool (is_for_second line)) [
  | inl is ↦ let other : ends_script line ≡ false = goes_on line is in cc
  | inr other ↦ other
]
