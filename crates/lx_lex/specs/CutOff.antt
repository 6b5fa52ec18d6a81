-- A line that couldn't be taken within the limit of the input.
use Rattle.std.specs.Prelude.{ℕ, ◌<◌, ◌≡◌, ◌⊎◌, Bool, false, List, []}
use Rattle.lx_base.specs.declared.TheConstants.{INPUT_BYTES}
use Rattle.lx_io.specs.Told.{ToldBySource}
use Rattle.lx_lex.specs.declared.lines.Lines.{Lines}
use Rattle.lx_lex.specs.Lines.{BytesBetween}
use Rattle.lx_lex.specs.Unread.{held, unread}

-- some bytes of the next line were taken: a read failed after them, or the limit of the input is among them
pub record NotTaken {S : Type 0} (told : ToldBySource S) (old new : Lines S) : Type 0 where
  pub raw : List ℕ
  pub fed : Bool
  pub took : BytesBetween (unread told old) (unread told new) old.taken new.taken raw fed
  pub stop : (INPUT_BYTES < new.taken) ⊎ ((fed ≡ false) × (held new ≡ []))
