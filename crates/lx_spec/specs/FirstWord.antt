-- The first word of a line of a show text.
use Rattle.std.specs.Prelude.{ℕ, Bool, true, false, ◌==◌, List, [], ◌∷◌, find, codes, if◌then◌else◌}
use Rattle.std.specs.Option.{option_map_or}
use Rattle.lx_spec.specs.declared.Word.{Word}
use Rattle.lx_spec.specs.declared.Word.TheVariants as words
use Rattle.lx_spec.specs.Text.{is_word}

-- how the known words are spelled
abbrev pub spellings : List (List ℕ × Word)
spellings =
    (codes "IDENT", words.Ident) ∷ (codes "MANUFACTURER", words.Maker) ∷ (codes "CONSOLE", words.Maker) ∷ (codes "CLEAR", words.Clear)
    ∷ (codes "SET", words.Set) ∷ (codes "PATCH", words.Patch) ∷ (codes "CUE", words.Cue) ∷ (codes "GROUP", words.Group)
    ∷ (codes "SUB", words.Sub) ∷ (codes "ENDDATA", words.EndData) ∷ (codes "CHAN", words.Chan) ∷ (codes "PART", words.Part)
    ∷ (codes "UP", words.Up) ∷ (codes "DOWN", words.Down) ∷ (codes "FOLLOWON", words.FollowOn) ∷ (codes "LINK", words.Link)
    ∷ (codes "TEXT", words.Text) ∷ (codes "$$BLOCK", words.Block) ∷ (codes "$$ASSERT", words.Assert) ∷ []

abbrev pub is_dollar : ℕ → Bool
is_dollar b = b == 36

-- another word, by the dollars that it begins with
abbrev pub dollar_word : List ℕ → Word
dollar_word (a ∷ b ∷ bs) = if is_dollar a then (if is_dollar b then words.TwoDollars else words.OneDollar) else words.Unknown
dollar_word (a ∷ []) = if is_dollar a then words.OneDollar else words.Unknown
dollar_word [] = words.Unknown

abbrev pub word_of : List ℕ → Word
word_of token = option_map_or (λ e. e.1) (find (λ e. is_word e.0 token) spellings) (dollar_word token)

-- the word belongs within a record: it neither begins one nor ends one
abbrev pub is_inner : Word → Bool
is_inner words.Chan = true
is_inner words.Part = true
is_inner words.Up = true
is_inner words.Down = true
is_inner words.FollowOn = true
is_inner words.Link = true
is_inner words.Text = true
is_inner words.Block = true
is_inner words.Assert = true
is_inner other = false
