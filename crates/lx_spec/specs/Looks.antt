-- A show whose cues name whole looks: their moves are the changes from look to look.
use Rattle.std.specs.Prelude.{ℕ, not, ◌==◌, List, [], ◌∷◌, map, filter, if◌then◌else◌}
use Rattle.std.specs.Option.{option_map_or}
use Rattle.lx_spec.specs.declared.Move.{Move}
use Rattle.lx_spec.specs.declared.Form.{Form}
use Rattle.lx_spec.specs.declared.Form.TheVariants.{Moves, States}
use Rattle.lx_spec.specs.Show.{Cue, Show}
use Rattle.lx_spec.specs.TrackedLevel.{move_in, level_in}
use Rattle.lx_spec.specs.EditedShow.{channels_of}

-- a move for each channel whose level isn't that of the look before, or in a block cue 0
abbrev pub look_moves : Show → (ℕ → ℕ) → Cue → List Move
look_moves show before cue =
    let changed = filter (λ c. not (level_in cue c == (if cue.block then 0 else before c))) (channels_of show) in
    map (λ c. record { chan = c; part = option_map_or (λ m. m.part) (move_in cue c) 1; level = level_in cue c }) changed

abbrev pub from_looks : Show → (ℕ → ℕ) → List Cue → List Cue
from_looks show before [] = []
from_looks show before (cue ∷ cues) = record cue { moves = look_moves show before cue } ∷ from_looks show (level_in cue) cues

abbrev pub by_form : Form → Show → Show
by_form Moves show = show
by_form States show = record show { cues = from_looks show (λ c. 0) show.cues }
