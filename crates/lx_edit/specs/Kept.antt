-- How levels go through a changed cue to the one above it.
use Rattle.std.specs.Prelude.{◌≡◌, ℕ, false, Option, Some, None, List, [], ◌∷◌, if◌then◌else◌}
use Rattle.lx_base.specs.Numbers.{Span}
use Rattle.lx_spec.specs.declared.Move.{Move}
use Rattle.lx_spec.specs.Show.{Cue, InRange}
use Rattle.lx_spec.specs.TrackedLevel.{decides, level_in}
use Rattle.lx_edit.specs.PlanMeaning.{covers}

-- the level that the cue decides for the channel, if it does
abbrev pub decided : Cue → ℕ → Option ℕ
decided cue c = if decides cue c then Some (level_in cue c) else None

-- the same of a cue that may be absent
abbrev pub decided_by : Option Cue → ℕ → Option ℕ
decided_by None c = None
decided_by (Some cue) c = decided cue c

-- for the show's channels outside the range the cue that may be absent decides what the other one does
abbrev pub DecidesOutside : Span → ℕ → Cue → Option Cue → Type 0
DecidesOutside range channels old new = (c : ℕ) → InRange channels c → covers range c ≡ false → decided_by new c ≡ decided old c

-- a move of the channel in part 1, where there is a level for it
abbrev pub base_moves : ℕ → Option ℕ → List Move
base_moves c None = []
base_moves c (Some level) = record { chan = c; part = 1; level = level } ∷ []
