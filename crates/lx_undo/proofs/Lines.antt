-- Which lines ask something of the history: such a line means nothing else, and a line that ends the script is none.
use Rattle.lx_undo.proofs.Imports.{◌≡◌, ℕ, Bool, true, false, Option, Some, None, List, [], ◌∷◌, refl, ap, ◌∙◌, inl, inr}
use Rattle.lx_undo.proofs.Imports.{nat_lt, length, codes, find, option_map_or, cases_Bool, Line, UndoLine, line_of, meaning, sentences, ends_script}
use Rattle.lx_undo.proofs.Imports.{is_quit, undo_line_of, undo_meaning}
use Rattle.std.specs.Str.{str_to_ascii_uppercase, bytes_eq}
use Rattle.std.proofs.lemmas.Slice.Eq.{bytes_eq-Decides}
use Rattle.lx_base.specs.declared.TheConstants.{LINE_BYTES}
use Rattle.lx_spec.specs.Text.{tokens, is_word}
use Rattle.lx_spec.specs.Phrase.{Tokens}

-- what a line means by its first token in capitals
abbrev by_capitals : List ℕ → Tokens → List ℕ → Option Line
by_capitals line rest capitals = option_map_or (λ s. s.1 rest) (find (λ s. bytes_eq capitals s.0) (sentences line)) None

capitals_are : (word token : List ℕ) → is_word word token ≡ true → str_to_ascii_uppercase token ≡ word
capitals_are word token is = (bytes_eq-Decides (str_to_ascii_uppercase token) word).0 is

nothing_by : (line : List ℕ) (rest : Tokens) (word token : List ℕ) → is_word word token ≡ true → by_capitals line rest word ≡ None
    → meaning line (token ∷ rest) ≡ None
nothing_by line rest word token is none = ap (by_capitals line rest) (capitals_are word token is) ∙ none

-- an undo, a redo or a record has no other meaning
alone : (line token : List ℕ) (rest : Tokens) (what : UndoLine) → undo_meaning (token ∷ rest) ≡ Some what
    → meaning line (token ∷ rest) ≡ None
alone line token rest what asks = elim (cases_Bool (is_word (codes "UNDO") token)) [
  | inl is ↦ nothing_by line rest (codes "UNDO") token is refl
  | inr no_undo ↦ elim (cases_Bool (is_word (codes "REDO") token)) [
    | inl is ↦ nothing_by line rest (codes "REDO") token is refl
    | inr no_redo ↦ elim (cases_Bool (is_word (codes "RECORD") token)) [
      | inl is ↦ nothing_by line rest (codes "RECORD") token is refl
      | inr no_record ↦ let nothing = rw (no_undo, no_redo, no_record) at asks in cc
    ]
  ]
]

alone_by : (line : List ℕ) (found : List (List ℕ)) (what : UndoLine) → undo_meaning found ≡ Some what → meaning line found ≡ None
alone_by line [] what asks = cc
alone_by line (token ∷ rest) what asks = alone line token rest what asks

pub means_nothing : (line : List ℕ) (what : UndoLine) → undo_line_of line ≡ Some what → line_of line ≡ None
means_nothing line what asks = elim (cases_Bool (nat_lt LINE_BYTES (length line))) [
  | inl long ↦ rw long refl
  | inr short ↦ let asked = rw short at asks in rw short (alone_by line (tokens line) what asked)
]

-- so such a line never ends the script
pub goes_on : (line : List ℕ) (what : UndoLine) → undo_line_of line ≡ Some what → ends_script line ≡ false
goes_on line what asks = ap is_quit (means_nothing line what asks)

no_asking : (o : Option UndoLine) (b : Bool) → ((what : UndoLine) → o ≡ Some what → b ≡ false) → b ≡ true → o ≡ None
no_asking None b others is = refl
no_asking (Some what) b others is = let other : b ≡ false = others what refl in cc

pub quit_asks_nothing : (line : List ℕ) → ends_script line ≡ true → undo_line_of line ≡ None
quit_asks_nothing line quit = no_asking (undo_line_of line) (ends_script line) (goes_on line) quit
