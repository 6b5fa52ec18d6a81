-- The mix of two rows of levels under a master.
use Rattle.std.specs.Prelude.{◌≡◌, ℕ, ◌≤◌, ◌<◌, max, List, length, slice_index}
use Rattle.lx_base.specs.Numbers.{scaled}

-- each entry, from one place to below another, is the greater of the two levels there, in proportion to the master
abbrev pub IsMixed : List ℕ → List ℕ → ℕ → List ℕ → ℕ → ℕ → Type 0
IsMixed playback subs master out from to =
    (k : ℕ) → from ≤ k → k < to → slice_index out k ≡ scaled (max (slice_index playback k) (slice_index subs k)) master

-- sixteen values, each what its place has
pub record HasWords (values : List ℕ) (value : ℕ → ℕ) : Type 0 where
  pub long : length values ≡ 16
  pub each : (k : ℕ) → k < 16 → slice_index values k ≡ value k
