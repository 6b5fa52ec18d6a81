-- The stacks of all channels, laid out plane by plane in one block: fade j of the channel at place k stands at j * channels + k. So of
-- a block with room for many fades a channel only what is used is written.
use Rattle.std.specs.Prelude.{ℕ, ◌*◌, ◌<◌, ◌≤◌, ◌≡◌, List, length, map, slice_index_or}
use Rattle.std.specs.List.{All, range_with_len}
use Rattle.lx_base.specs.declared.TheConstants.{CHANNELS, RUNS}
use Rattle.lx_fade.specs.declared.held.TheConstants.{NEVER}
use Rattle.lx_fade.specs.Fades.{Fade}
use Rattle.lx_fade.specs.Row.{stack_column}
use Rattle.lx_levels.specs.declared.racks.Foot.{Foot}
use Rattle.lx_levels.specs.Stacks.{Stack}

abbrev pub foot_at : List Foot → ℕ → Foot
foot_at feet k = slice_index_or feet k (record { bottom = 0; count = 0 })

-- the stack of a channel, by the level below its fades and their count
abbrev pub stack_on : ℕ → Foot → List Fade → ℕ → Stack
stack_on channels foot block k = record { bottom = foot.bottom; fades = stack_column block channels k foot.count }

abbrev pub stack_at_place : ℕ → List Foot → List Fade → ℕ → Stack
stack_at_place channels feet block k = stack_on channels (foot_at feet k) block k

abbrev pub stacks_of : ℕ → List Foot → List Fade → List Stack
stacks_of channels feet block = map (stack_at_place channels feet block) (range_with_len 0 channels)

-- there are no more fades than runs may be live, and the block reaches over them
pub record FootReaches (channels : ℕ) (block : List Fade) (foot : Foot) : Type 0 where
  pub most : foot.count ≤ RUNS
  pub reach : foot.count * channels ≤ length block

-- a level and a count for each channel, over whose fades the block reaches; it has room for those of all runs that may be live, and
-- each fade begins before NEVER
pub record IsLaidOut (channels : ℕ) (feet : List Foot) (block : List Fade) (room : ℕ) : Type 0 where
  pub few : channels ≤ CHANNELS
  pub of_feet : length feet ≡ channels
  pub each : (k : ℕ) → k < channels → FootReaches channels block (foot_at feet k)
  pub begin : All (λ f. f.start < NEVER) block
  pub room_is : RUNS * channels ≤ room
