-- A first word is looked up, and its line means what the table of sentences says.
use Rattle.lx_script.proofs.Imports.{◌≡◌, ℕ, ◌-◌, Option, None, List, ◌∷◌, [], ◌++◌, map, length, take, drop, true, refl, sym, ap}
use Rattle.lx_script.proofs.Imports.{◌∙◌, arith, inl, inr, codes, eqb, find, option_and_then, starts_with, cases_Bool, Decides-eqb, length-drop, take_all}
use Rattle.lx_script.proofs.Imports.{starts_is, Line, begins_comment, is_word, tokens, Tokens, meaning, looked_up, before_first-no, FirstWord, first_words}
use Rattle.lx_script.proofs.Imports.{sentence_of}
use Rattle.std.specs.Option.{option_map_or}

-- the sentences of a table of words
abbrev sentences_by : List ℕ → List (List ℕ × FirstWord) → List (List ℕ × (Tokens → Option Line))
sentences_by line table = map (λ e. (e.0, sentence_of line e.1)) table

-- the line by the word that was found
abbrev with_word : List ℕ → Option FirstWord → Tokens → Option Line
with_word line found rest = option_and_then (λ w. sentence_of line w rest) found

sentence_found : (line first : List ℕ) (rest : Tokens) (table : List (List ℕ × FirstWord))
    → option_map_or (λ (s : List ℕ × (Tokens → Option Line)). s.1 rest)
    (find (λ (s : List ℕ × (Tokens → Option Line)). is_word s.0 first) (sentences_by line table)) None
    ≡ with_word line (looked_up table first) rest
sentence_found line first rest [] = refl
sentence_found line first rest (e ∷ table) = elim (cases_Bool (is_word e.0 first)) [
  | inl is ↦ rw is refl
  | inr other ↦ rw other (sentence_found line first rest table)
]

pub meaning_is : (line first : List ℕ) (rest : Tokens) → meaning line (first ∷ rest) ≡ with_word line (looked_up first_words first) rest
meaning_is line first rest = sentence_found line first rest first_words

frame_cut : (rest : List ℕ) → tokens (codes "frame " ++ rest) ≡ codes "frame" ∷ tokens rest
frame_cut rest = rw (
  before_first-no begins_comment 102 (codes "rame " ++ rest) refl,
  before_first-no begins_comment 114 (codes "ame " ++ rest) refl,
  before_first-no begins_comment 97 (codes "me " ++ rest) refl,
  before_first-no begins_comment 109 (codes "e " ++ rest) refl,
  before_first-no begins_comment 101 (codes " " ++ rest) refl,
  before_first-no begins_comment 32 rest refl,
) refl

-- the tokens of a line that begins with `frame` and a space
pub frame_first : (line : List ℕ) → starts_with eqb line (codes "frame ") ≡ true
    → tokens line ≡ codes "frame" ∷ tokens (take (length line - 6) (drop 6 line))
frame_first line begins =
    let is : line ≡ codes "frame " ++ drop 6 line = (starts_is Decides-eqb line (codes "frame ") (starts_with eqb line (codes "frame ")) refl).0 begins in
    let all : drop 6 line ≡ take (length line - 6) (drop 6 line) = sym (take_all (length line - 6) (drop 6 line) (rw length-drop (omega arith))) in
    ap tokens (is ∙ ap (λ xs. codes "frame " ++ xs) all) ∙ frame_cut (take (length line - 6) (drop 6 line))
