-- The rule of the history, and what its one step tells.
use Rattle.std.specs.Prelude.{ℕ, ◌≡◌, ◌==◌, true, List, [], ◌∷◌, ◌++◌, length, MatchBool}
use Rattle.logbook.specs.Pages.{Cell, Step, View, Book, Named}
use Rattle.lx_spec.specs.declared.Command.{Command}
use Rattle.lx_gate.specs.CommandLists.{flat}

-- the first word is the number of commands; a book has two words, of which the second stays 0
pub record IsCounted (cells : List Cell) (log : List (List Command)) : Type 0 where
  pub words : cells ≡ (length (flat log), true) ∷ (0, true) ∷ []

abbrev pub head_of : Book → Named
head_of b = record { tracked = true; key = 0; book = b }

-- the batch was added to all that had been seen; or the history is longer, and its length was found
abbrev pub Adds : Step (List Command) → View (List Command) ℕ → ℕ → View (List Command) ℕ → Type 0
Adds s v found w = MatchBool (found == s.old) (flat w.0 ≡ flat v.0 ++ s.ask) (length (flat w.0) ≡ found)
