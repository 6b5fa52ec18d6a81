-- The marks of the rows.
use Rattle.std.specs.Prelude.{◌≡◌, ℕ, ◌+◌, ◌*◌, ◌/◌, ◌≤◌, Bool, true, ◌==◌, length, vec_capacity}
use Rattle.lx_base.specs.declared.TheConstants.{CUES}
use Rattle.lx_spec.specs.Show.{Cue}
use Rattle.lx_spec.specs.TrackedLevel.{decides}
use Rattle.lx_sheet.specs.declared.marks.Marks.{Marks}
use Rattle.lx_sheet.specs.WordPlaces.{row_bit, words_over}

-- the channel is marked in the row: its cue may decide it
unfoldable pub has_mark : Marks → ℕ → ℕ → Bool
has_mark marks row c = row_bit marks.groups marks.words.items row c == 1

-- of this many channels those that the cue decides are marked in the row
abbrev pub IsMarkedFor : ℕ → Marks → ℕ → Cue → Type 0
IsMarkedFor channels marks row cue = (c : ℕ) → 1 ≤ c → c ≤ channels → decides cue c ≡ true → has_mark marks row c ≡ true

-- there is a word for the row and each group
abbrev pub IsReached : Marks → ℕ → Type 0
IsReached marks row = (row / 64 + 1) * marks.groups * 64 ≤ length marks.words.items

-- The marks tell of the row whether its cue decides the channel: the row is reached, and the channel marked where it does.
pub record Tells (marks : Marks) (row : ℕ) (cue : Cue) (c : ℕ) : Type 0 where
  pub few : marks.groups ≤ 64
  pub within : c ≤ 64 * marks.groups
  pub reached : IsReached marks row
  pub marked : decides cue c ≡ true → has_mark marks row c ≡ true

-- the table has as many groups, and no less room and no fewer words
pub record IsGrown (old new : Marks) : Type 0 where
  pub groups : new.groups ≡ old.groups
  pub room : vec_capacity old.words ≤ vec_capacity new.words
  pub words : length old.words.items ≤ length new.words.items

-- a table for this many channels, with room for all rows
pub record IsMarkTable (channels : ℕ) (marks : Marks) : Type 0 where
  pub few : marks.groups ≤ 64
  pub groups : channels ≤ 64 * marks.groups
  pub room : words_over CUES marks.groups ≤ vec_capacity marks.words
