-- Slots that are filled in from outputs.
use Rattle.std.specs.Prelude.{◌≡◌, ℕ, ◌+◌, ◌-◌, ◌≤◌, ◌<◌, List, slice_index}
use Rattle.lx_base.specs.Numbers.{scaled}

-- each slot, from one to below another, is the output at its place, in proportion to its level
abbrev pub AreSlots : List ℕ → List ℕ → List ℕ → List ℕ → ℕ → ℕ → Type 0
AreSlots places levels outs slots from to =
    (k : ℕ) → from ≤ k → k < to → slice_index slots k ≡ scaled (slice_index outs (slice_index places k)) (slice_index levels k)

-- each place, from one to below another, is the one that follows the place before
abbrev pub AreInARow : List ℕ → ℕ → ℕ → Type 0
AreInARow places from to = (k : ℕ) → from ≤ k → k < to → slice_index places k ≡ slice_index places from + (k - from)

-- the slots of the dimmers whose channels stand at places below one are those of the outputs, the others those of the outputs before
pub record IsFollowed (places levels before outs slots : List ℕ) (count from : ℕ) : Type 0 where
  pub done : (e : ℕ) → e < count → slice_index places e < from
      → slice_index slots e ≡ scaled (slice_index outs (slice_index places e)) (slice_index levels e)
  pub left : (e : ℕ) → e < count → from ≤ slice_index places e
      → slice_index slots e ≡ scaled (slice_index before (slice_index places e)) (slice_index levels e)
