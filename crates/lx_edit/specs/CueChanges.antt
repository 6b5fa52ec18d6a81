-- What a channel sees of a cue that is changed, added or taken out.
use Rattle.std.specs.Prelude.{◌≡◌, ℕ, ◌-◌, ◌<◌, ◌≤◌, true, List, [], Bool, false, ◌||◌, Option, Some, None, is_some, option_and_then, if◌then◌else◌}
use Rattle.std.specs.Option.{option_map_or, option_or, IsSomeAnd}
use Rattle.std.specs.List.{AllByRecursion}
use Rattle.lx_spec.specs.declared.Move.{Move}
use Rattle.lx_spec.specs.Show.{Cue, Show, Valid, InRange}
use Rattle.lx_spec.specs.SortedList.{entry_at}
use Rattle.lx_spec.specs.TrackedLevel.{cue_of, move_in, move_of, tracked}
use Rattle.lx_spec.specs.EditedShow.{with_cue}
use Rattle.lx_sheet.specs.Rows.{Sheet, level_of, numbers_of}
use Rattle.lx_sheet.specs.SheetMeaning.{IsMarked, RowsStandFor, StandsIn, cue_numbers, next_decision}
use Rattle.lx_spec.specs.Laws.{SameColumn}
use Rattle.lx_edit.specs.declared.chan_set.ChanSet.{ChanSet}
use Rattle.lx_edit.specs.ChanSet.{has_chan}

-- the channel's move in the cue, where that is there
abbrev pub move_by : Option Cue → ℕ → Option Move
move_by cue c = option_and_then (λ x. move_in x c) cue

-- its moves, where it is there
abbrev pub moves_of_cue : Option Cue → List Move
moves_of_cue cue = option_map_or (λ x. x.moves) cue []

-- each of these moves whose channel isn't in the set is among the others
abbrev pub AreAmong : ChanSet → List Move → List Move → Type 0
AreAmong chans moves others = AllByRecursion (λ m. has_chan chans m.chan ≡ false → entry_at (λ x. x.chan) m.chan others ≡ Some m) moves

-- it is there, and a block cue
abbrev pub is_block : Option Cue → Bool
is_block None = false
is_block (Some cue) = cue.block

-- the level that comes of the one that tracks into it
abbrev pub level_from : Option Cue → ℕ → ℕ → ℕ
level_from cue c base = if is_block cue || is_some (move_by cue c) then option_map_or (λ m. m.level) (move_by cue c) 0 else base

-- the channel has the same move in both, and the same level comes of the one that tracks into them
pub record SameEntry (old new : Option Cue) (c base : ℕ) : Type 0 where
  pub moves : move_by old c ≡ move_by new c
  pub level : level_from old c base ≡ level_from new c base

-- the set has at least the channels that it had
abbrev pub Grows : ChanSet → ChanSet → Type 0
Grows old new = (c : ℕ) → has_chan new c ≡ false → has_chan old c ≡ false

-- the same moves and tracked levels of the channel, at every number
pub record SameLevels (one other : Show) (c : ℕ) : Type 0 where
  pub moves : (n : ℕ) → move_of one n c ≡ move_of other n c
  pub levels : (n : ℕ) → tracked one n c ≡ tracked other n c

-- a channel that isn't in the set has the same moves and levels in both shows
abbrev pub KeepsLevels : Show → Show → ChanSet → Type 0
KeepsLevels before after chans = (c : ℕ) → has_chan chans c ≡ false → SameLevels before after c

-- a channel of the show that isn't in the set sees the same of both shows
abbrev pub KeepsOthers : Show → Show → ChanSet → Type 0
KeepsOthers before after chans = (c : ℕ) → InRange before.channels c → has_chan chans c ≡ false → SameColumn before after c

-- where the channel's changed levels end: at the given number, or else at that cue
abbrev pub column_end : Option ℕ → Show → ℕ → ℕ → Option ℕ
column_end to show n c = option_or to (next_decision show n c)

-- a number from there on
abbrev pub IsPast : Option ℕ → Show → ℕ → ℕ → ℕ → Type 0
IsPast to show n c m = IsSomeAnd (column_end to show n c) (λ end. end ≤ m)

-- The columns that are left to be mended. The sheet stands for the show in each column below a number, and from where the channel's
-- changed levels end on. So it does in all of the column of a channel that isn't in the set. What the cues decide is marked.
pub record CanMend (show : Show) (sheet : Sheet) (from : ℕ) (to : Option ℕ) (chans : ChanSet) : Type 0 where
  pub channels : sheet.channels ≡ show.channels
  pub numbers : numbers_of sheet ≡ cue_numbers show
  pub below : (c n : ℕ) → n < from → level_of sheet n c ≡ tracked show n c
  pub later : (c n : ℕ) → IsPast to show from c n → level_of sheet n c ≡ tracked show n c
  pub others : (c : ℕ) → has_chan chans c ≡ false → StandsIn show c sheet
  pub marks : IsMarked show sheet

-- The show came of another, for which the sheet stands, by a cue put in the place of the one of the number. A channel that isn't in the set
-- sees no difference.
pub record Replaced (show : Show) (sheet : Sheet) (n : ℕ) (chans : ChanSet) : Type 0 where
  pub before : Show
  pub cue : Cue
  pub valid : Valid before
  pub stood : RowsStandFor before sheet
  pub number : cue.number ≡ n
  pub least : 1 ≤ cue.number
  pub there : is_some (cue_of before n) ≡ true
  pub is : show ≡ with_cue before cue
  pub same : (c : ℕ) → has_chan chans c ≡ false → SameEntry (cue_of before n) (Some cue) c (tracked before (n - 1) c)
