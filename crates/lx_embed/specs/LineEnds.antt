-- Bytes that end a line.
use Rattle.std.specs.Prelude.{◌≡◌, ◌≤◌, ◌<◌, ◌==◌, ◌||◌, ℕ, Bool, true, false, List, slice_index}

-- LF or CR
abbrev pub ends_line : ℕ → Bool
ends_line byte = byte == 10 || byte == 13

-- whether one of the bytes from a place up to another ends a line
abbrev pub TellsEnd : List ℕ → ℕ → ℕ → Bool → Type 0
TellsEnd bytes from to true = (k : ℕ) × (from ≤ k) × (k < to) × (ends_line (slice_index bytes k) ≡ true)
TellsEnd bytes from to false = (k : ℕ) → from ≤ k → k < to → ends_line (slice_index bytes k) ≡ false
