-- What one line of a script comes to.
use Rattle.std.specs.Prelude.{◌≡◌, ◌==◌, ◌&&◌, ℕ, Bool, true, Option, Result, List, OnOk, OnErr, not}
use Rattle.std.specs.List.{list_any}
use Rattle.std.specs.Io.{StartsWith}
use Rattle.lx_io.specs.declared.sink.SinkFault.{SinkFault}
use Rattle.lx_spec.specs.Desk.{Desk}
use Rattle.lx_spec.specs.Session.{Session, Answering, begin_at, ends_script}
use Rattle.lx_spec.specs.DeskSession.{begun, desk_answering}
use Rattle.lx_spec.specs.Undo.{UndoState}
use Rattle.lx_spec.specs.UndoSession.{undo_answering}
use Rattle.lx_console.specs.ConsoleMeaning.{StandsFor}
use Rattle.lx_session.specs.OneAnswer.{GoesOnBy, GoesOnUnless}
use Rattle.lx_session.specs.Spared.{spared}
use Rattle.lx_undo.specs.UndoDeskMeaning.{UndoStands}
use Rattle.lx_embed.specs.declared.engine.Engine.{Engine}
use Rattle.lx_embed.specs.declared.engine.Engine.TheVariants.{Plain, Undo}

-- The session that begins at the state goes on by the line, of which an attempt failed as out of memory only where one may. The desk then
-- stands for the state after it, and what is kept is the text of the reply, or at a fault a front of it. It answers false exactly for `quit`, at which there is
-- no fault.
pub record AnswersLine (by : Answering (List ℕ)) (Stands : by.State → Type 0) (state : by.State) (line : List ℕ)
    (result : Result Bool SinkFault) (reply : List ℕ) : Type 0 where
  pub next : Session by.State
  pub failed : Option ℕ
  pub goes_on : GoesOnBy by (begin_at state) next line failed
  pub stands : Stands next.state
  pub text : OnOk result (reply ≡ next.text)
  pub front : OnErr result (StartsWith next.text reply)
  pub more : GoesOnUnless (ends_script line) result

-- Each desk for which the engine stood answered the line so; where memory was ample no attempt of it failed.
abbrev pub Answered : Bool → Engine → Engine → List ℕ → Result Bool SinkFault → List ℕ → Type 0
Answered ample (Plain before) (Plain now) line result reply = (d : Desk) → StandsFor d before
    → AnswersLine (spared ample (desk_answering true)) (λ next. StandsFor next.desk now) (begun d) line result reply
Answered ample (Undo before) (Undo now) line result reply = (s : UndoState) → UndoStands s before
    → AnswersLine (spared ample undo_answering) (λ next. UndoStands next now) s line result reply
Answered ample (Plain before) (Undo now) line result reply = ⊥
Answered ample (Undo before) (Plain now) line result reply = ⊥

-- no LF and no CR is among the bytes
abbrev pub is_bare : List ℕ → Bool
is_bare bytes = not (list_any (λ b. b == 10) bytes) && not (list_any (λ b. b == 13) bytes)
