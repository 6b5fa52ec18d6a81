-- What keys and ticks do to the live runs.
use Rattle.std.specs.Prelude.{◌≡◌, ◌≤◌, Bool, true, false, [], ◌∷◌}
use Rattle.lx_spec.specs.Show.{Show}
use Rattle.lx_spec.specs.Run.{Run}
use Rattle.lx_spec.specs.Playback.{Playback}
use Rattle.lx_levels.specs.Stacks.{KeptLevels as Levels}
use Rattle.lx_levels.specs.LevelsMeaning.{LevelsStandFor}

-- one more run, which starts at the present moment, over the same base
pub record IsStarted (before after : Playback) : Type 0 where
  pub last : Run
  pub live_is : after.live ≡ last ∷ before.live
  pub base : after.base ≡ before.base
  pub now : last.start ≡ after.moment

-- no other run, over the same base
pub record IsSame (before after : Playback) : Type 0 where
  pub live_is : after.live ≡ before.live
  pub base : after.base ≡ before.base

-- The levels stood for the playback before a tick, which came to rest, or else started a run, or else left the runs.
pub record IsTicked (show : Show) (p : Playback) (levels : Levels) (rested fired : Bool) : Type 0 where
  pub before : Playback
  pub stood : LevelsStandFor show before levels
  pub later : before.moment ≤ p.moment
  pub rest : rested ≡ true → p.live ≡ []
  pub started : rested ≡ false → fired ≡ true → IsStarted before p
  pub same : rested ≡ false → fired ≡ false → IsSame before p
