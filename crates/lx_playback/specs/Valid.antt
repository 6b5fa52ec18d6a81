-- What always holds of a playback.
use Rattle.std.specs.Prelude.{◌≡◌, ℕ, ◌+◌, ◌%◌, ◌<◌, ◌≤◌, nat_le, List, [], ◌∷◌, length, slice_index_or, ⊤}
use Rattle.std.specs.List.{AllByRecursion, list_all}
use Rattle.lx_base.specs.declared.TheConstants.{RUNS, TICK_STEP, TICK_END}
use Rattle.lx_spec.specs.declared.PartTimes.{PartTimes}
use Rattle.lx_spec.specs.Show.{IsTime}
use Rattle.lx_spec.specs.Run.{Run, extent}
use Rattle.lx_spec.specs.Playback.{Playback}

-- times and delays are at most the longest
pub record ValidTimes (entry : PartTimes) : Type 0 where
  pub up : IsTime entry.up
  pub up_delay : IsTime entry.up_delay
  pub down : IsTime entry.down
  pub down_delay : IsTime entry.down_delay

-- a run that started by the moment, with at least one entry of part times
pub record ValidRun (moment : ℕ) (run : Run) : Type 0 where
  pub started : run.start ≤ moment
  pub entry : 1 ≤ length run.parts
  pub times : AllByRecursion ValidTimes run.parts

-- no run started after one before it in the list
abbrev pub NewestFirst : List Run → Type 0
NewestFirst [] = ⊤
NewestFirst (run ∷ older) = AllByRecursion (λ r. r.start ≤ run.start) older × NewestFirst older

-- each run started no earlier than those before it in the list
abbrev pub OldestFirst : List Run → Type 0
OldestFirst runs =
    (i j : ℕ) (d : Run) → i ≤ j → j < length runs → (slice_index_or runs i d).start ≤ (slice_index_or runs j d).start

-- the moment is a whole number of ticks, and the live runs are few, valid, and in the order in which they started
pub record ValidPlayback (p : Playback) : Type 0 where
  pub moment : p.moment ≤ TICK_END
  pub even : p.moment % TICK_STEP ≡ 0
  pub few : length p.live ≤ RUNS
  pub live : AllByRecursion (ValidRun p.moment) p.live
  pub order : NewestFirst p.live

-- a playback that has room for all its runs, and knows from which moment on every live run is over
pub record IsStoredPlayback (p : Playback) (reserved over_at : ℕ) : Type 0 where
  pub valid : ValidPlayback p
  pub room : RUNS ≤ reserved
  pub over : (m : ℕ) → list_all (λ run. nat_le (run.start + extent run) m) p.live ≡ nat_le over_at m
