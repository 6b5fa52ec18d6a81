-- How the rows are kept: a block of levels by row, marks beside it, and the cues in order, each with the row of the block that is its own.
use Rattle.std.specs.Prelude.{◌≡◌, ℕ, zero, suc, ◌+◌, ◌*◌, ◌≤◌, ◌<◌, ◌==◌, List, [], ◌∷◌, ◌++◌, length, map, take, drop, get_or, slice_index}
use Rattle.std.specs.List.{All, AllByRecursion, IsDistinct, range_with_len}
use Rattle.lx_base.specs.declared.TheConstants.{CUES, CHANNELS}
use Rattle.lx_spec.specs.SortedList.{IsStrictlySorted, entries_below}
use Rattle.lx_spec.specs.Show.{Cue, ValidCue}
use Rattle.lx_sheet.specs.declared.block.TheConstants.{ROW_GAP}
use Rattle.lx_sheet.specs.declared.sheet.Place.{Place}
use Rattle.lx_sheet.specs.declared.marks.Marks.{Marks}
use Rattle.lx_sheet.specs.Rows.{Row, CueMarks}
use Rattle.lx_sheet.specs.Marks.{IsMarkTable, IsMarkedFor, IsReached, has_mark}

-- how far apart rows begin: there is a gap behind each
abbrev pub width : ℕ → ℕ
width channels = channels + ROW_GAP

-- the rows of cues, each as many levels as there are channels
abbrev pub rows_of : ℕ → List Place → List ℕ → List Row
rows_of channels order levels = map (λ p. record { number = p.cue; levels = take channels (drop (p.row * width channels) levels) }) order

-- the marks of cues, each for the channels of its row
abbrev pub marks_of : ℕ → List Place → Marks → List CueMarks
marks_of channels order marks = map (λ p. record { number = p.cue; chans = map (has_mark marks p.row) (range_with_len 1 channels) }) order

-- the rows of the block that are cues' own
abbrev pub own_rows : List Place → List ℕ
own_rows order = map (λ p. p.row) order

-- no row is there twice, and each stands in the block
pub record AreApart (rows : List ℕ) : Type 0 where
  pub distinct : IsDistinct (λ a b. a == b) rows
  pub within : All (λ r. r < CUES) rows

-- the cues' own rows and the free ones are apart, and together all rows of the block
pub record IsPool (order : List Place) (free : List ℕ) : Type 0 where
  pub apart : AreApart (own_rows order ++ free)
  pub all : length (own_rows order ++ free) ≡ CUES

-- the block, which grows as rows are needed, reaches over each cue's own row
abbrev pub Covers : ℕ → List ℕ → List Place → Type 0
Covers channels levels order = All (λ r. (r + 1) * width channels ≤ length levels) (own_rows order)

-- The block covers the rows of an order, which are apart.
pub record IsBlock (channels : ℕ) (levels : List ℕ) (order : List Place) : Type 0 where
  pub few : channels ≤ CHANNELS
  pub covered : Covers channels levels order
  pub apart : AreApart (own_rows order)

-- the same, with a place for each of these valid cues
pub record HasPlaces (channels : ℕ) (levels : List ℕ) (order : List Place) (cues : List Cue) : Type 0 where
  pub block : IsBlock channels levels order
  pub places : length order ≡ length cues
  pub valid : AllByRecursion (ValidCue channels) cues

-- The places are sorted by number, and their rows and the free ones a pool. There is room for the greatest number of both.
pub record IsOrder (order : List Place) (room : ℕ) (free : List ℕ) (spare : ℕ) : Type 0 where
  pub sorted : IsStrictlySorted (λ p. p.cue) order
  pub pool : IsPool order free
  pub row_room : CUES ≤ room
  pub free_room : CUES ≤ spare

-- there are marks of each row of the block
pub record HoldsMarks (channels : ℕ) (levels : List ℕ) (marks : Marks) : Type 0 where
  pub table : IsMarkTable channels marks
  pub reached : (r : ℕ) → (r + 1) * width channels ≤ length levels → IsReached marks r

-- The cues are in order, and the block covers their rows. There is room for the greatest number of rows, and for the levels of one cue.
pub record HoldsRows (channels : ℕ) (order : List Place) (room : ℕ) (free : List ℕ) (spare : ℕ) (levels : List ℕ) (capacity : ℕ)
    (look : List ℕ) (marks : Marks) : Type 0 where
  pub kept : IsOrder order room free spare
  pub block : IsBlock channels levels order
  pub level_room : CUES * width channels ≤ capacity
  pub look_room : length look ≡ channels
  pub marked : HoldsMarks channels levels marks

-- a channel's level among those of the channels from 1 on
abbrev pub level_in_look : List ℕ → ℕ → ℕ
level_in_look levels c = slice_index (0 ∷ levels) c

-- the same in a row of the block
unfoldable pub cell : ℕ → List ℕ → ℕ → ℕ → ℕ
cell channels levels row c = level_in_look (take channels (drop (row * width channels) levels)) c

-- the row of the block that is the own one of the cue at this place of the order
abbrev pub row_at_place : List Place → ℕ → ℕ
row_at_place order k = slice_index (own_rows order) k

-- a channel's level in the cue at this place of the order
abbrev pub cue_level : ℕ → List Place → List ℕ → ℕ → ℕ → ℕ
cue_level channels order levels k c = cell channels levels (row_at_place order k) c

-- the channels that the cues decide are marked in their rows
abbrev pub AreMarked : ℕ → List Place → List Cue → Marks → Type 0
AreMarked channels order cues marks =
    (k : ℕ) (cue : Cue) → k < length cues → cue ≡ get_or cues k cue → IsMarkedFor channels marks (row_at_place order k) cue

-- the last of this many values, or 0 where there is none
abbrev pub last_value : ℕ → (ℕ → ℕ) → ℕ
last_value zero f = 0
last_value (suc k) f = f k

-- how many of the numbers are below this one
abbrev pub count_under : ℕ → List ℕ → ℕ
count_under from numbers = length (entries_below (λ m. m) from numbers)

-- the cues, each with the row of its own place, counted from this one on
abbrev pub placed_from : ℕ → List Cue → List Place
placed_from row [] = []
placed_from row (cue ∷ cues) = record { cue = cue.number; row = row } ∷ placed_from (suc row) cues
