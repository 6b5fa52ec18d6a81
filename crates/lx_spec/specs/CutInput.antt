-- The first lines of an input, and an input that was cut off.
use Rattle.std.specs.Prelude.{◌≡◌, ◌≢◌, ◌≤◌, ◌⊎◌, ℕ, zero, suc, ◌+◌, ◌-◌, ◌==◌, Option, IfSome, List, [], ◌∷◌, ◌++◌, length, take, count_by}
use Rattle.std.specs.Prelude.{if◌then◌else◌}
use Rattle.std.specs.List.{AllByRecursion}
use Rattle.lx_base.specs.declared.TheConstants.{INPUT_BYTES}

-- no byte is LF
abbrev pub HasNoFeed : List ℕ → Type 0
HasNoFeed bytes = AllByRecursion (λ b. b ≢ 10) bytes

-- how many LFs there are
abbrev pub feeds : List ℕ → ℕ
feeds bytes = count_by (λ b. b == 10) bytes

-- the bytes of the first k lines, each with its LF where it has one
abbrev pub first_lines : ℕ → List ℕ → List ℕ
first_lines k [] = []
first_lines zero (b ∷ bs) = []
first_lines (suc k) (b ∷ bs) = b ∷ first_lines (if b == 10 then k else suc k) bs

-- Of these bytes the source was asked for this many lines, which lie within the limit of the input, and for some of the bytes behind
-- them, among which, as far as they are within the limit, is no LF. `before` bytes of the input were taken before, and `left` is
-- what the source has left. Each of the lines has its LF, but for a last one behind which is nothing.
pub record CutOff (before : ℕ) (bytes : List ℕ) (left : Option (List ℕ)) : Type 0 where
  pub lines : ℕ
  pub next : List ℕ
  pub taken : IfSome left (λ rest. bytes ≡ first_lines lines bytes ++ (next ++ rest))
  pub within : before + length (first_lines lines bytes) ≤ INPUT_BYTES
  pub fed : IfSome left (λ rest. (feeds (first_lines lines bytes) ≡ lines) ⊎ (next ++ rest ≡ []))
  pub no_feed : HasNoFeed (take (INPUT_BYTES - (before + length (first_lines lines bytes))) next)
