-- What is kept of a line while it is read.
use Rattle.std.specs.Prelude.{ℕ, ◌+◌, ◌≤◌, ◌≡◌, List, ◌++◌, length, take}
use Rattle.lx_base.specs.declared.TheConstants.{LINE_BYTES}
use Rattle.lx_spec.specs.Text.{without_cr}

-- the first `total` bytes of the line's buffer are these, where they have room
pub record Keeps (raw : List ℕ) (before after : List ℕ) (total total' : ℕ) : Type 0 where
  pub count : total' ≡ total + length (without_cr raw)
  pub bytes : total' ≤ LINE_BYTES → take total' after ≡ take total before ++ without_cr raw
