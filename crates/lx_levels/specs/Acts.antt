-- What runs do to a channel on which they act.
use Rattle.std.specs.Prelude.{◌≡◌, ℕ, ◌+◌, ◌≤◌, is_some, nat_le, Option, None, Some, IfSome, if◌then◌else◌}
use Rattle.lx_base.specs.declared.TheConstants.{TICK_END}
use Rattle.lx_spec.specs.Show.{Show}
use Rattle.lx_spec.specs.TrackedLevel.{tracked}
use Rattle.lx_spec.specs.Run.{Run, acts, entry_extent, entry_for}
use Rattle.lx_spec.specs.Level.{fade_over}
use Rattle.lx_playback.specs.Valid.{ValidTimes}
use Rattle.lx_levels.specs.declared.replay.Act.{Act}

-- the level at a moment, over what was there before
abbrev pub act_over : Act → (ℕ → ℕ) → ℕ → ℕ
act_over act before m =
    let entry = act.entry in
    let rising = nat_le (before act.start) act.target in
    fade_over before (act.start + (if rising then entry.up_delay else entry.down_delay)) (if rising then entry.up else entry.down) act.target m

-- within the ticks, with valid times
pub record IsValid (act : Act) : Type 0 where
  pub start : act.start ≤ TICK_END
  pub times : ValidTimes act.entry

-- by a moment the channel is at the act's target, whichever way it goes
abbrev pub IsOver : ℕ → Option Act → Type 0
IsOver m None = ⊥
IsOver m (Some act) = act.start + entry_extent act.entry ≤ m

-- the act of this run
pub record IsOf (show : Show) (run : Run) (c : ℕ) (act : Act) : Type 0 where
  pub start : act.start ≡ run.start
  pub target : act.target ≡ tracked show run.cue c
  pub entry : act.entry ≡ entry_for show run c
  pub valid : IsValid act

-- what a run that comes from a position does to a channel is known: its act, or that it doesn't act
pub record IsKnown (show : Show) (before : ℕ) (run : Run) (c : ℕ) (known : Option Act) : Type 0 where
  pub acts_is : acts show before run c ≡ is_some known
  pub act : IfSome known (IsOf show run c)
