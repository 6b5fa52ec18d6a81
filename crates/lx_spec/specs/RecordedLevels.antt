-- Record from the stage: a cue takes the levels that the playback gives, where tracking gives others.
use Rattle.std.specs.Prelude.{ℕ, Bool, not, ◌==◌, None, Result, Ok, List, map, filter}
use Rattle.lx_spec.specs.declared.Member.{Member}
use Rattle.lx_spec.specs.declared.Edit.TheVariants.{MakeCue}
use Rattle.lx_spec.specs.declared.Refusal.{Refusal}
use Rattle.lx_spec.specs.FirstRefusal.{◌>>=◌}
use Rattle.lx_spec.specs.Show.{Show}
use Rattle.lx_spec.specs.TrackedLevel.{tracked}
use Rattle.lx_spec.specs.EditedShow.{channels_of, the_cue, with_cue, with_levels, cue_only, edited}
use Rattle.lx_spec.specs.Level.{level}
use Rattle.lx_spec.specs.Desk.{Desk}

-- the channels whose level isn't the tracked one at the cue, with their levels
abbrev pub untracked : (ℕ → ℕ) → Show → ℕ → List Member
untracked levels show n =
    map (λ c. record { chan = c; level = levels c }) (filter (λ c. not (levels c == tracked show n c)) (channels_of show))

-- The show after a record of the levels at cue n, or its refusal. The cue is made where it is absent. Each of these channels moves in
-- it to its level, in the part of the move that it had, or in part 1.
abbrev pub with_recorded : (ℕ → ℕ) → Show → ℕ → Bool → Result Show Refusal
with_recorded levels before n only = do
  show ← edited before (MakeCue n)
  cue ← the_cue show n
  Ok (cue_only only before n (with_cue show (with_levels None cue (untracked levels show n))))

-- the level of the channel on stage: that of the playback, before submasters and master
abbrev pub on_stage : Desk → ℕ → ℕ
on_stage d c = level d.show 0 d.all c d.playback.moment

abbrev pub recorded : Desk → ℕ → Bool → Result Show Refusal
recorded d n only = with_recorded (on_stage d) d.show n only
