-- A list with one of its entries changed.
use Rattle.std.specs.Prelude.{ℕ, List, Option, Some, None}
use Rattle.std.specs.Option.{option_map_or}
use Rattle.lx_spec.specs.SortedList.{entry_at, placed, taken_out}

-- the entries, with the one of the number changed in its place; all of them as they are where there is none
abbrev pub changed : {A : Type 0} → (A → ℕ) → ℕ → (A → A) → List A → List A
changed key n change xs = option_map_or (λ x. placed key (change x) xs) (entry_at key n xs) xs

-- the entries, where the one of the number becomes this one, or goes
abbrev pub exchanged_at : {A : Type 0} → (A → ℕ) → ℕ → Option A → List A → List A
exchanged_at key n None xs = taken_out key n xs
exchanged_at key n (Some x) xs = placed key x xs
