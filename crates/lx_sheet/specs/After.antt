-- The levels after a list of cues.
use Rattle.std.specs.Prelude.{◌≡◌, ℕ, ◌+◌, ◌<◌, ◌≤◌, true, false, List, IfSome, find, length, reverse, take, slice_get, if◌then◌else◌}
use Rattle.std.specs.Option.{option_map_or, IsSomeAnd}
use Rattle.lx_spec.specs.Show.{Cue}
use Rattle.lx_spec.specs.TrackedLevel.{decides, level_in}
use Rattle.lx_sheet.specs.declared.sheet.Place.{Place}
use Rattle.lx_sheet.specs.Block.{cell, cue_level, last_value}

-- a channel's level after these cues: that of the last one that decides it, or 0
unfoldable pub level_after : List Cue → ℕ → ℕ
level_after cues c = option_map_or (λ cue. level_in cue c) (find (λ cue. decides cue c) (reverse cues)) 0

-- a channel's level in a cue, from the one before
abbrev pub tracked_on : Cue → ℕ → ℕ → ℕ
tracked_on cue c before = if decides cue c then level_in cue c else before

-- the row at this place holds the levels after the cues up to it
abbrev pub IsRight : ℕ → List Place → List Cue → List ℕ → ℕ → ℕ → Type 0
IsRight channels order cues levels k c = cue_level channels order levels k c ≡ level_after (take (k + 1) cues) c

-- from a place on each row follows from the one before: it is right where that one is
abbrev pub RowsFollow : ℕ → List Place → List Cue → List ℕ → ℕ → Type 0
RowsFollow channels order cues levels from =
    (k c : ℕ) → from ≤ k → k + 1 < length cues → IsRight channels order cues levels k c → IsRight channels order cues levels (k + 1) c

-- The rows from a place on were filled in: those before it are as they were, and where the last of them was right and rows follow from
-- `sure` on, the others are right.
pub record FillsRows (channels : ℕ) (order : List Place) (cues : List Cue) (levels filled : List ℕ) (from sure : ℕ) : Type 0 where
  pub front : (k c : ℕ) → k < from → k < length order → cue_level channels order filled k c ≡ cue_level channels order levels k c
  pub rows : ((c : ℕ) → last_value from (λ k. cue_level channels order levels k c) ≡ level_after (take from cues) c)
      → RowsFollow channels order cues levels sure → (k c : ℕ) → from ≤ k → k < length cues → IsRight channels order cues filled k c

-- where the cue at a place changes no level, the row behind it is right
abbrev pub IsPassed : ℕ → List Place → List Cue → List ℕ → ℕ → Type 0
IsPassed channels order cues levels at =
    ((c : ℕ) → level_after (take (at + 1) cues) c ≡ level_after (take at cues) c) → (c : ℕ) → at + 1 < length cues
    → IsRight channels order cues levels (at + 1) c

-- where the row that is left of a cue holds the levels before its place, the row there is right
abbrev pub IsLeft : ℕ → List Place → List Cue → List ℕ → ℕ → ℕ → Type 0
IsLeft channels order cues levels at row =
    ((c : ℕ) → cell channels levels row c ≡ level_after (take at cues) c) → (c : ℕ) → at < length cues
    → IsRight channels order cues levels at c

-- from `sure` on, the cue at the place decides the channel
pub record IsDecision (cues : List Cue) (chan sure k : ℕ) : Type 0 where
  pub least : sure ≤ k
  pub decides : IsSomeAnd (slice_get cues k) (λ cue. decides cue chan ≡ true)

-- The channel's column was filled in from a place up to this one: to the given end, or to the first cue from `sure` on that decides it.
pub record IsEnd (cues : List Cue) (chan from sure to end : ℕ) : Type 0 where
  pub most : end ≤ to
  pub stops : end < to → IsDecision cues chan sure end
  pub passed : (k : ℕ) → from ≤ k → sure ≤ k → k < end → IfSome (slice_get cues k) (λ cue. decides cue chan ≡ false)
