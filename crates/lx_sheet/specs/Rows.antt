-- A sheet: the levels that channels have in each cue, and which of them it may decide.
use Rattle.std.specs.Prelude.{ℕ, Bool, true, Option, List, ◌∷◌, map, find, reverse, nat_le, slice_index, slice_index_or}
use Rattle.std.specs.Option.{option_map_or}
use Rattle.lx_spec.specs.SortedList.{entry_at}

-- the row of a cue: the levels of the channels from 1 on
pub record Row : Type 0 where
  pub number : ℕ
  pub levels : List ℕ

-- the marks of a cue, for the channels from 1 on: where one is false the cue doesn't decide the channel, and where it is true it may
pub record CueMarks : Type 0 where
  pub number : ℕ
  pub chans : List Bool

-- the channel count for which the sheet was opened, and a row and marks for each cue, sorted by number
pub record Sheet : Type 0 where
  pub channels : ℕ
  pub rows : List Row
  pub marks : List CueMarks

abbrev pub numbers_of : Sheet → List ℕ
numbers_of sheet = map (λ row. row.number) sheet.rows

-- the row of the cue of this number
abbrev pub row_at : Sheet → ℕ → Option Row
row_at sheet n = entry_at (λ row. row.number) n sheet.rows

-- a channel's level in a row: that of channel c at place c - 1
abbrev pub level_in_row : Row → ℕ → ℕ
level_in_row row c = slice_index (0 ∷ row.levels) c

-- a channel's level at a number, which need not be a cue's: that in the last of the rows up to it, or 0
unfoldable pub level_by : List Row → ℕ → ℕ → ℕ
level_by rows n c = option_map_or (λ row. level_in_row row c) (find (λ row. nat_le row.number n) (reverse rows)) 0

abbrev pub level_of : Sheet → ℕ → ℕ → ℕ
level_of sheet n c = level_by sheet.rows n c

-- the channel is marked at the cue of the number, and so it is where nothing is said of it
unfoldable pub marked_by : List CueMarks → ℕ → ℕ → Bool
marked_by marks n c = option_map_or (λ m. slice_index_or (true ∷ m.chans) c true) (entry_at (λ m. m.number) n marks) true

abbrev pub is_marked : Sheet → ℕ → ℕ → Bool
is_marked sheet n c = marked_by sheet.marks n c
