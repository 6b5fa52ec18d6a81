-- What a line means is valid, and a first word of a desk's line is none of the history's.
use Rattle.lx_script.proofs.Imports.{◌≡◌, ℕ, Option, Some, None, List, ◌∷◌, false, subst, sym, ap, ◌∙◌, inl, inr, refl, IfSome, codes}
use Rattle.lx_script.proofs.Imports.{option_map, find, str_to_ascii_uppercase, bytes_eq, cases_Bool, bytes_eq-Decides, Line, is_word, Tokens, line_of}
use Rattle.lx_script.proofs.Imports.{undo_meaning, ValidLine, line_of-valid, looked_up, FirstWord, first_words, IsReadOf, IsValidWithUndo}
use Rattle.lx_script.specs.declared.undo_line.LineWithUndo.{LineWithUndo}
use Rattle.lx_script.specs.declared.undo_line.LineWithUndo.TheVariants.{OfHistory, OfDesk}
use Rattle.lx_spec.specs.declared.UndoLine.{UndoLine}

pub valid_meaning : (line : List ℕ) (o : Option Line) → IfSome o (λ meaning. line_of line ≡ Some meaning) → IfSome o ValidLine
valid_meaning line None is = tt
valid_meaning line (Some meaning) is = subst (λ o. IfSome o ValidLine) is (line_of-valid line)

pub valid_with_undo : (read : LineWithUndo) (line : List ℕ) (asked : Option UndoLine) → IsReadOf read asked (line_of line) → IsValidWithUndo read
valid_with_undo (OfHistory what) line asked is = is.1
valid_with_undo (OfDesk meant) line asked is = subst (λ o. IfSome o ValidLine) (sym is.1) (line_of-valid line)

-- what the table has for a word in capitals
abbrev in_table : List ℕ → Option FirstWord
in_table capitals = option_map (λ (e : List ℕ × FirstWord). e.1) (find (λ (e : List ℕ × FirstWord). bytes_eq capitals e.0) first_words)

-- a token that is in the table is no word that isn't
no_other : (w first : List ℕ) (word : FirstWord) → in_table w ≡ None → looked_up first_words first ≡ Some word
    → is_word w first ≡ false
no_other w first word none found = elim (cases_Bool (is_word w first)) [
  | inl is ↦
      let same : str_to_ascii_uppercase first ≡ w = (bytes_eq-Decides (str_to_ascii_uppercase first) w).0 is in
      let clash : None ≡ Some word = sym (ap in_table same ∙ none) ∙ found in
      cc
  | inr other ↦ other
]

pub not_history : (first : List ℕ) (word : FirstWord) (rest : Tokens) → looked_up first_words first ≡ Some word
    → undo_meaning (first ∷ rest) ≡ None
not_history first word rest found = rw (
  no_other (codes "UNDO") first word refl found,
  no_other (codes "REDO") first word refl found,
  no_other (codes "RECORD") first word refl found,
) refl
