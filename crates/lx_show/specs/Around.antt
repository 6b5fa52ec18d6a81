-- The entries of a list around a number.
use Rattle.std.specs.Prelude.{ℕ, List, filter, nat_le}

-- the entries whose number is at most this one
abbrev pub entries_up_to : {A : Type 0} → (A → ℕ) → ℕ → List A → List A
entries_up_to key n xs = filter (λ x. nat_le (key x) n) xs
