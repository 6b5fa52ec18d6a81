-- Looks that become moves, cue by cue.
use Rattle.std.specs.Prelude.{ℕ, Bool, not, ◌==◌, List, [], ◌∷◌, map, filter, if◌then◌else◌}
use Rattle.std.specs.Option.{option_map_or}
use Rattle.std.specs.List.{range_with_len}
use Rattle.lx_spec.specs.declared.Move.{Move}
use Rattle.lx_spec.specs.Show.{Cue, Show}
use Rattle.lx_spec.specs.TrackedLevel.{move_in, level_in}
use Rattle.lx_spec.specs.Looks.{look_moves}

-- the look of the last cue, or the dark one
abbrev pub last_look : List Cue → ℕ → ℕ
last_look [] c = 0
last_look (cue ∷ []) c = level_in cue c
last_look (cue ∷ next ∷ cues) c = last_look (next ∷ cues) c

-- the level in the look isn't the one before it, or in a block cue 0
abbrev pub look_changes : (ℕ → ℕ) → Cue → ℕ → Bool
look_changes before cue c = not (level_in cue c == (if cue.block then 0 else before c))

abbrev pub look_move : Cue → ℕ → Move
look_move cue c = record { chan = c; part = option_map_or (λ m. m.part) (move_in cue c) 1; level = level_in cue c }

-- the moves of the first channels
abbrev pub moves_up_to : (ℕ → ℕ) → Cue → ℕ → List Move
moves_up_to before cue n = map (look_move cue) (filter (look_changes before cue) (range_with_len 1 n))

-- the cue with the moves from the look of the last cue before it
abbrev pub with_look : Show → List Cue → Cue → Cue
with_look show front cue = record cue { moves = look_moves show (last_look front) cue }
