-- The cues that a record places.
use Rattle.std.specs.Prelude.{ℕ, Bool, not, ◌&&◌, ◌==◌, unwrap_or}
use Rattle.lx_spec.specs.Show.{Cue, Show}
use Rattle.lx_spec.specs.TrackedLevel.{cue_of, tracked, decides}
use Rattle.lx_spec.specs.EditedShow.{new_cue, with_moves, moves_for}

-- the cue of the number, or a new one
abbrev pub cue_or_new : Show → ℕ → Cue
cue_or_new show n = unwrap_or (cue_of show n) (new_cue n)

-- the channel would come to another level at the cue above, if these levels tracked into it
abbrev pub comes_out_changed : (ℕ → ℕ) → Show → Cue → ℕ → Bool
comes_out_changed levels show above c = not (decides above c) && not (tracked show above.number c == levels c)

-- the cue above, which keeps its levels
abbrev pub kept_cue : (ℕ → ℕ) → Show → Cue → Cue
kept_cue levels show above = with_moves above (moves_for show (comes_out_changed levels show above) (tracked show above.number))
