-- What a sheet stands for.
use Rattle.std.specs.Prelude.{◌≡◌, ℕ, ◌<◌, ◌≤◌, true, List, Option, IfSome, find, length, map, option_map, slice_index}
use Rattle.lx_spec.specs.Show.{Show}
use Rattle.lx_spec.specs.SortedList.{entries_above}
use Rattle.lx_spec.specs.TrackedLevel.{cue_of, decides, tracked}
use Rattle.lx_sheet.specs.Rows.{Sheet, numbers_of, level_of, is_marked}

abbrev pub cue_numbers : Show → List ℕ
cue_numbers show = map (λ cue. cue.number) show.cues

-- In the column of a channel the sheet stands for the show: at each number the channel has its tracked level.
abbrev pub StandsIn : Show → ℕ → Sheet → Type 0
StandsIn show c sheet = (n : ℕ) → level_of sheet n c ≡ tracked show n c

-- the number of the least cue above this one that decides the channel
abbrev pub next_decision : Show → ℕ → ℕ → Option ℕ
next_decision show n c = option_map (λ cue. cue.number) (find (λ cue. decides cue c) (entries_above (λ cue. cue.number) n show.cues))

-- the same at the numbers of the cues from a place on
abbrev pub StandsFrom : Show → ℕ → ℕ → Sheet → Type 0
StandsFrom show c place sheet = (k : ℕ) → place ≤ k → k < length show.cues
    → level_of sheet (slice_index (cue_numbers show) k) c ≡ tracked show (slice_index (cue_numbers show) k) c

-- the channels that the show's cue of the number decides are marked there
abbrev pub IsMarkedAt : Show → Sheet → ℕ → Type 0
IsMarkedAt show sheet n = IfSome (cue_of show n) (λ cue. (c : ℕ) → decides cue c ≡ true → is_marked sheet n c ≡ true)

-- each cue's are
abbrev pub IsMarked : Show → Sheet → Type 0
IsMarked show sheet = (n : ℕ) → IsMarkedAt show sheet n

-- The sheet stands for the show: it has the show's channel count and a row for each of its cues, and stands for it in each column. What a
-- cue decides is marked.
pub record RowsStandFor (show : Show) (sheet : Sheet) : Type 0 where
  pub channels : sheet.channels ≡ show.channels
  pub numbers : numbers_of sheet ≡ cue_numbers show
  pub columns : (c : ℕ) → StandsIn show c sheet
  pub marks : IsMarked show sheet
