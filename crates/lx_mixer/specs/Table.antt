-- Lists that give a value for each number from 1 on.
use Rattle.std.specs.Prelude.{◌≡◌, ℕ, ◌+◌, ◌<◌, List, length, slice_index}

-- the values of the numbers 1 to n, each at the place below its number
pub record IsTable (n : ℕ) (value : ℕ → ℕ) (values : List ℕ) : Type 0 where
  pub reach : length values ≡ n
  pub each : (k : ℕ) → k < n → slice_index values k ≡ value (k + 1)
