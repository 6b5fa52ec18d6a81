-- What a live run comes to.
use Rattle.std.specs.Prelude.{◌≡◌, ℕ, ◌<◌, List, ◌++◌, length, Some, IfSome, slice_get, Result}
use Rattle.std.specs.declared.option.Option.{Option}
use Rattle.lx_io.specs.declared.sink.SinkFault.{SinkFault}
use Rattle.lx_io.specs.Told.{ToldBySink, ToldBySource}
use Rattle.lx_lex.specs.declared.lines.Lines.{Lines}
use Rattle.lx_lex.specs.Unread.{bytes_taken, source_left, unread}
use Rattle.lx_spec.specs.declared.Command.{Command}
use Rattle.lx_spec.specs.Show.{Show}
use Rattle.lx_spec.specs.Desk.{opened, replay}
use Rattle.lx_spec.specs.DeskSession.{begun}
use Rattle.lx_spec.specs.Kept.{Kept}
use Rattle.lx_console.specs.ConsoleMeaning.{StandsFor}
use Rattle.lx_session.specs.declared.fault.SessionFault.{SessionFault}
use Rattle.lx_session.specs.declared.tally.Tally.{Tally}
use Rattle.lx_session.specs.Listening.{HasDone}
use Rattle.lx_session.specs.ScriptAnswer.{ScriptAnswered}
use Rattle.lx_workers.specs.Engines.{engine_answering, most_of}
use Rattle.lx_workers.specs.Places.{OutletIsBack}

-- Each place has its sink back, with what it was to get of these published commands; past the places no fault is told.
pub record AreDelivered {K : Type 0} (told : ToldBySink K) (show : Show)
    (outlets outlets' : List (Option K)) (results : List (Option SinkFault)) (published : List Command) : Type 0 where
  pub same_places : length outlets' ≡ length outlets
  pub each : (place : ℕ) (start : K) → slice_get outlets place ≡ Some (Some start)
      → OutletIsBack told show outlets' results published place start
  pub others : (place : ℕ) (fault : SinkFault) → slice_get results place ≡ Some (Some fault) → place < length outlets

-- A script was answered as in a session that admits every command, unless there were too many to count, and no more of its lines failed than
-- so many. The commands that its lines came to are published up to the last n, the console stands for the desk after them all, and each
-- outlet has what it was to get of those that are published.
pub record HasPlayedScript {S O K : Type 0} (most : Option ℕ) (told_in : ToldBySource S) (told_out : ToldBySink O) (told : ToldBySink K) (show : Show)
    (lines lines' : Lines S) (output output' : O) (outlets outlets' : List (Option K)) (console : Kept)
    (session : Result Tally SessionFault) (results : List (Option SinkFault)) (unsent : ℕ) : Type 0 where
  pub published : List Command
  pub held_back : List Command
  pub unsent_is : unsent ≡ length held_back
  pub stands : StandsFor (replay show (published ++ held_back)) console
  pub session_is : IfSome (unread told_in lines) (λ bytes.
      ScriptAnswered (engine_answering (published ++ held_back)) (most_of most (published ++ held_back))
      (HasDone (λ commands. commands ≡ published ++ held_back) (opened show) console)
      (begun (opened show)) (bytes_taken lines) bytes (unread told_in lines') (source_left told_in lines') (told_out.holds output)
      (told_out.holds output') session)
  pub outlets_are : AreDelivered told show outlets outlets' results published
