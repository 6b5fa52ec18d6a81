-- Where the entry of a number stands in a sorted list, or would go.
use Rattle.std.specs.Prelude.{◌≡◌, ℕ, ◌+◌, ◌<◌, ◌≤◌, List, None, length, take, drop, slice_get}
use Rattle.lx_spec.specs.SortedList.{entry_at, entries_below, entries_above}

-- the entry with the number stands at the index
pub record StandsAt {A : Type 0} (key : A → ℕ) (n : ℕ) (xs : List A) (at : ℕ) : Type 0 where
  pub within : at < length xs
  pub before : take at xs ≡ entries_below key n xs
  pub here : entry_at key n xs ≡ slice_get xs at
  pub after : drop (at + 1) xs ≡ entries_above key n xs

-- no entry has the number, and it would go to the index
pub record GoesAt {A : Type 0} (key : A → ℕ) (n : ℕ) (xs : List A) (at : ℕ) : Type 0 where
  pub within : at ≤ length xs
  pub before : take at xs ≡ entries_below key n xs
  pub absent : entry_at key n xs ≡ None
  pub after : drop at xs ≡ entries_above key n xs
