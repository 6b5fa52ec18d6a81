-- What levels stand for.
use Rattle.std.specs.Prelude.{◌≡◌, ◌≢◌, ℕ, ◌+◌, ◌<◌, ◌≤◌, List, ◌∷◌, length}
use Rattle.lx_spec.specs.Show.{Show}
use Rattle.lx_spec.specs.Run.{Run}
use Rattle.lx_spec.specs.Level.{level}
use Rattle.lx_spec.specs.Playback.{Playback}
use Rattle.lx_levels.specs.Stacks.{KeptLevels, stack_level, kept_stack}

-- the stack of channel c, at place c - 1, gives its level at every moment from the present one on, and has no more fades than runs are live
pub record StackStandsAt (show : Show) (p : Playback) (kept : KeptLevels) (k : ℕ) : Type 0 where
  pub later : (x : ℕ) → p.moment ≤ x → stack_level (kept_stack kept k) x ≡ level show p.base p.live (k + 1) x
  pub few : length (kept_stack kept k).fades ≤ length p.live

-- levels stand for a show and a playback: they are at its moment, and have a stack for each channel
pub record LevelsStandFor (show : Show) (p : Playback) (kept : KeptLevels) : Type 0 where
  pub moment : kept.moment ≡ p.moment
  pub reach : length kept.stacks ≡ show.channels
  pub each : (k : ℕ) → k < show.channels → StackStandsAt show p kept k

-- they stand for the playback as it was before its last run, which starts at the present moment
pub record StandsBefore (show : Show) (p : Playback) (kept : KeptLevels) : Type 0 where
  pub last : Run
  pub older : List Run
  pub live_is : p.live ≡ last ∷ older
  pub now : last.start ≡ p.moment
  pub stands : LevelsStandFor show (record p { live = older }) kept

-- the same levels but at one place
pub record IsElsewhere (place : ℕ) (before after : KeptLevels) : Type 0 where
  pub moment : after.moment ≡ before.moment
  pub reach : length after.stacks ≡ length before.stacks
  pub others : (k : ℕ) → k ≢ place → kept_stack after k ≡ kept_stack before k

-- this many channels stand for the playback, which has another run, and the others are as they were before it
pub record IsAdded (show : Show) (p : Playback) (n : ℕ) (before kept : KeptLevels) : Type 0 where
  pub moment : kept.moment ≡ before.moment
  pub reach : length kept.stacks ≡ length before.stacks
  pub done : (k : ℕ) → k < n → StackStandsAt show p kept k
  pub left : (k : ℕ) → n ≤ k → kept_stack kept k ≡ kept_stack before k
