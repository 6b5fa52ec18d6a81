-- A line that was done and answered on a console, beside what listens.
use Rattle.std.specs.Prelude.{◌≡◌, ℕ, Bool, Option, None, IfSome, Result, List, ◌++◌, OnOk}
use Rattle.lx_io.specs.declared.sink.SinkFault.{SinkFault}
use Rattle.lx_io.specs.Puts.{Puts}
use Rattle.lx_io.specs.Told.{ToldBySink}
use Rattle.lx_spec.specs.declared.Command.{Command}
use Rattle.lx_spec.specs.declared.Line.{Line}
use Rattle.lx_spec.specs.Kept.{Kept}
use Rattle.lx_spec.specs.Session.{Session}
use Rattle.lx_spec.specs.DeskSession.{DeskState, after_meaning, MayFailAt}
use Rattle.lx_console.specs.ConsoleMeaning.{StandsFor}
use Rattle.lx_session.specs.declared.tally.Tally.{Tally}
use Rattle.lx_session.specs.Attempts.{after_commands}
use Rattle.lx_session.specs.LineReply.{counts_in}

-- The session goes on so by a line of this meaning, of which that attempt failed, if one did, and the commands that were accepted were heard
-- of.
pub record GoesOn (all : Bool) (heard : List Command → Type 0) (s next : Session DeskState) (meaning : Option Line) (failed : Option ℕ)
    : Type 0 where
  pub is : after_meaning failed s meaning ≡ next
  pub allowed : IfSome failed (λ attempt. MayFailAt all s.state.desk meaning)
  pub commands : List Command
  pub accepted : next.state.accepted ≡ s.state.accepted ++ commands
  pub desk : next.state.desk ≡ after_commands s.state.desk commands
  pub listened : heard commands

-- The line was done: the console stands for the desk after it, and its reply was appended, or at a fault a prefix of it.
pub record LineAnswer {K T : Type 0} (all : Bool) (heard : List Command → Type 0) (told : ToldBySink K)
    (sink sink' : K) (result : Result T SinkFault) (s : Session DeskState) (meaning : Option Line) (console : Kept) (tally : Tally)
    : Type 0 where
  pub next : Session DeskState
  pub failed : Option ℕ
  pub goes_on : GoesOn all heard s next meaning failed
  pub stands : StandsFor next.state.desk console
  pub reply : List ℕ
  pub text : next.text ≡ s.text ++ reply
  pub puts : Puts told sink sink' result reply
  pub counts : OnOk result (next.counts ≡ counts_in tally)

-- The same, and where memory was ample none of its attempts failed.
pub record SparedAnswer {K T : Type 0} (Ample : Type 0) (all : Bool) (heard : List Command → Type 0) (told : ToldBySink K)
    (sink sink' : K) (result : Result T SinkFault) (s : Session DeskState) (meaning : Option Line) (console : Kept) (tally : Tally)
    : Type 0 where
  pub answer : LineAnswer all heard told sink sink' result s meaning console tally
  pub none : Ample → answer.failed ≡ None

-- what holds of a session for whose desk the console stood, and which had counted this many
abbrev pub FromDesk : Kept → Tally → (Session DeskState → Type 0) → Type 0
FromDesk console tally P = (s : Session DeskState) → StandsFor s.state.desk console → s.counts ≡ counts_in tally → P s
