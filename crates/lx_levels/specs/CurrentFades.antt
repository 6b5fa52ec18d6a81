-- Which fade gives a channel's level, and how long that stays.
use Rattle.std.specs.Prelude.{◌≡◌, ◌≢◌, ◌⊎◌, ℕ, ◌+◌, ◌<◌, ◌≤◌, Option, List, length, slice_index, slice_index_or, slice_set}
use Rattle.lx_base.specs.declared.TheConstants.{CHANNELS, RUNS}
use Rattle.lx_fade.specs.Fades.{fade_at}
use Rattle.lx_fade.specs.declared.held.TheConstants.{NEVER}
use Rattle.lx_levels.specs.declared.current.Current.{Current}
use Rattle.lx_levels.specs.declared.hints.Hint.{Hint}
use Rattle.lx_levels.specs.declared.motion.Motion.{Motion}
use Rattle.lx_levels.specs.declared.replay.Act.{Act}
use Rattle.lx_levels.specs.Stacks.{Stack, stack_level, no_stack}

-- The fade has begun by the moment, and gives the level of the stack from there on until the wake, or for ever where that is NEVER.
pub record Governs (m : ℕ) (stack : Stack) (current : Current) : Type 0 where
  pub begun : current.fade.start ≤ m
  pub gives : (x : ℕ) → m ≤ x → (x < current.wake) ⊎ (current.wake ≡ NEVER) → stack_level stack x ≡ fade_at current.fade x

-- from the moment on the channel stays at the level
abbrev pub IsStill : ℕ → Stack → ℕ → Type 0
IsStill m stack level = (x : ℕ) → m ≤ x → stack_level stack x ≡ level

-- at the places from one up to another the levels are those of a row, and are held for ever
abbrev pub AreAt : List ℕ → List ℕ → List ℕ → ℕ → ℕ → Type 0
AreAt levels holds row from to =
    (i : ℕ) → from ≤ i → i < to → (slice_index levels i ≡ slice_index row i) × (slice_index holds i ≡ NEVER)

-- until another moment it does, or for ever where that is NEVER
abbrev pub StaysUntil : ℕ → Stack → ℕ → ℕ → Type 0
StaysUntil m stack level until = (x : ℕ) → m ≤ x → (x < until) ⊎ (until ≡ NEVER) → stack_level stack x ≡ level

abbrev pub no_current : Current
no_current = record { fade = record { start = 0; time = 0; from = 0; target = 0 }; wake = 0 }

-- what is kept of a channel: the fade that governs, the level, and the moment up to which it is held
pub record Place : Type 0 where
  pub current : Current
  pub level : ℕ
  pub hold : ℕ

abbrev pub place_of : Motion → ℕ → Place
place_of motion k = record {
  current = slice_index_or motion.currents.items k no_current;
  level = slice_index motion.levels.items k;
  hold = slice_index motion.holds.items k;
}

-- At the moment, a channel has a level that stays until the moment up to which it is held, and a fade that governs, if it is not held for
-- ever. Where that moment has come, only the fade is known.
pub record IsHeld (m : ℕ) (stack : Stack) (place : Place) : Type 0 where
  pub governs : place.hold ≢ NEVER → Governs m stack place.current
  pub stays : StaysUntil m stack place.level place.hold

-- and that moment is a later one
pub record IsTold (m : ℕ) (stack : Stack) (place : Place) : Type 0 where
  pub held : IsHeld m stack place
  pub later : m < place.hold

-- a place for each of so many channels, which are not too many
pub record LevelsReach (channels : ℕ) (motion : Motion) : Type 0 where
  pub few : channels ≤ CHANNELS
  pub of_currents : length motion.currents.items ≡ channels
  pub of_levels : length motion.levels.items ≡ channels
  pub of_holds : length motion.holds.items ≡ channels

-- the channel is told at the moment, and is held for no less than that of all
pub record IsRight (m : ℕ) (stacks : List Stack) (motion : Motion) (k : ℕ) : Type 0 where
  pub told : IsTold m (slice_index_or stacks k no_stack) (place_of motion k)
  pub due : motion.due ≤ slice_index motion.holds.items k

-- so it is of each channel
pub record IsRightAt (m : ℕ) (stacks : List Stack) (motion : Motion) : Type 0 where
  pub reaches : LevelsReach (length stacks) motion
  pub begun : m + 1 < NEVER
  pub each : (k : ℕ) → k < length stacks → IsRight m stacks motion k

-- and there are a hint and an act for each run that may be live
pub record IsReadyAt (m : ℕ) (stacks : List Stack) (motion : Motion) (hints : List Hint) (acts : List (Option Act)) : Type 0 where
  pub right : IsRightAt m stacks motion
  pub room : length hints ≡ RUNS
  pub acts_room : length acts ≡ RUNS

-- so it is but for the channel at one place
pub record IsRightBut (m place : ℕ) (stacks : List Stack) (motion : Motion) : Type 0 where
  pub reaches : LevelsReach (length stacks) motion
  pub begun : m + 1 < NEVER
  pub within : place < length stacks
  pub each : (k : ℕ) → k < length stacks → k ≢ place → IsRight m stacks motion k

-- what is kept of one channel was written
pub record IsWritten (k : ℕ) (before after : Motion) : Type 0 where
  pub place : Place
  pub currents : after.currents.items ≡ slice_set before.currents.items k place.current
  pub levels : after.levels.items ≡ slice_set before.levels.items k place.level
  pub holds : after.holds.items ≡ slice_set before.holds.items k place.hold

-- the channels before a place have been brought to the moment
pub record IsAdvanced (m place : ℕ) (stacks : List Stack) (motion : Motion) : Type 0 where
  pub reaches : LevelsReach (length stacks) motion
  pub done : (k : ℕ) → k < place → IsTold m (slice_index_or stacks k no_stack) (place_of motion k)
  pub left : (k : ℕ) → place ≤ k → k < length stacks → IsHeld m (slice_index_or stacks k no_stack) (place_of motion k)
