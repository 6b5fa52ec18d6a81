-- What is known of the lines of a source between two moments, where lines were handed out.
use Rattle.std.specs.Prelude.{ℕ, ◌+◌, ◌≡◌, true, List, length}
use Rattle.lx_io.specs.Told.{ToldBySource}
use Rattle.lx_lex.specs.declared.lines.Lines.{Lines}
use Rattle.lx_lex.specs.Lines.{LinesBetween}
use Rattle.lx_lex.specs.Unread.{unread}

-- these lines, each without its LF, were handed out one after another, over the same source, no read failed, and the next can be asked for
pub record HandedOut {S : Type 0} (told : ToldBySource S) (old new : Lines S) (raws : List (List ℕ)) : Type 0 where
  pub took : LinesBetween (unread told old) (unread told new) old.taken new.taken raws
  pub number : new.number ≡ old.number + length raws
  pub going : new.going ≡ true
  pub same_reference : new.source.ghost_name ≡ old.source.ghost_name
  pub kept : told.faults new.source.now ≡ told.faults old.source.now
