-- Words looked up in a table.
use Rattle.std.specs.Prelude.{ℕ, Option, List, find, map, option_map}
use Rattle.std.specs.Borrow.{Bor}
use Rattle.std.specs.Str.{str_to_ascii_uppercase}
use Rattle.lx_spec.specs.Text.{is_word}

-- the entries of a table, each with its word in capitals
abbrev pub in_capitals : {T : Type 0} → List (Bor (List ℕ) × T) → List (List ℕ × T)
in_capitals table = map (λ e. (str_to_ascii_uppercase e.0.now, e.1)) table

-- what a table has for the first of its words that a token is
abbrev pub looked_up : {T : Type 0} → List (List ℕ × T) → List ℕ → Option T
looked_up table token = option_map (λ e. e.1) (find (λ e. is_word e.0 token) table)
