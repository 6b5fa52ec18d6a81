-- Rows of levels, place by place.
use Rattle.lx_base.specs.Numbers.{scaled}
use Rattle.std.specs.Prelude.{◌≡◌, ◌≢◌, ℕ, ◌+◌, ◌≤◌, ◌<◌, List, length, slice_index}

-- two rows agree at each place from one to below another
abbrev pub Agree : List ℕ → List ℕ → ℕ → ℕ → Type 0
Agree old new from to = (k : ℕ) → from ≤ k → k < to → slice_index old k ≡ slice_index new k

-- the least place from a place on where two rows differ
pub record IsNextChange (old new : List ℕ) (from at : ℕ) : Type 0 where
  pub least : from ≤ at
  pub within : at < length old
  pub before : Agree old new from at
  pub differs : slice_index old at ≢ slice_index new at

-- how many places agree, of this many from a place on, up to the first that doesn't
pub record IsRun (old new : List ℕ) (at lanes run : ℕ) : Type 0 where
  pub most : run ≤ lanes
  pub agree : Agree old new at (at + run)
  pub stops : run < lanes → slice_index old (at + run) ≢ slice_index new (at + run)

-- each entry, from one place to below another, is the level there in proportion to the other row's
abbrev pub IsScaled : List ℕ → List ℕ → List ℕ → ℕ → ℕ → Type 0
IsScaled levels by out from to = (k : ℕ) → from ≤ k → k < to → slice_index out k ≡ scaled (slice_index levels k) (slice_index by k)

-- thirty-two values, each what its place has
pub record HasLanes (values : List ℕ) (value : ℕ → ℕ) : Type 0 where
  pub long : length values ≡ 32
  pub each : (k : ℕ) → k < 32 → slice_index values k ≡ value k
