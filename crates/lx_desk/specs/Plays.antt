-- What playing a script from a state on comes to, by its status.
use Rattle.std.specs.Prelude.{ℕ, IfSome, List}
use Rattle.lx_io.specs.Told.{ToldBySink, ToldBySource}
use Rattle.lx_lex.specs.declared.lines.Lines.{Lines}
use Rattle.lx_lex.specs.Unread.{bytes_taken, source_faults, source_left, unread}
use Rattle.lx_spec.specs.Session.{Answering}
use Rattle.lx_desk.specs.declared.desk.Status.{Status}
use Rattle.lx_desk.specs.Done.{Accounts}
use Rattle.lx_desk.specs.Endings.{EndsScript, HasPlayed}
use Rattle.lx_session.specs.Spared.{ByRefusals}

-- The script that is left was answered from this state on, from lines to lines and from an output to an output, by a heap whose count of
-- refusals went from one number to another.
pub record Plays {S K : Type 0} (told_in : ToldBySource S) (told_out : ToldBySink K) (refusals refusals' : ℕ)
    (by : Answering (List ℕ)) (state : by.State) (old new : Lines S) (output output' : K) (s : Status) : Type 0 where
  pub works : EndsScript s
  pub ended : ByRefusals refusals refusals' (λ most. IfSome (unread told_in old)
      (λ bytes. HasPlayed most s by state (bytes_taken old) bytes (source_left told_in new) (told_out.holds output) (told_out.holds output')))
  pub accounts : Accounts told_out refusals refusals' (source_faults told_in old) (source_faults told_in new) output output' s
  pub open accounts use *
