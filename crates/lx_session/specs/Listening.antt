-- A session on a console beside what listens to it.
use Rattle.std.specs.Prelude.{◌≡◌, List}
use Rattle.lx_spec.specs.declared.Command.{Command}
use Rattle.lx_spec.specs.Kept.{Kept}
use Rattle.lx_spec.specs.Desk.{Desk}
use Rattle.lx_spec.specs.DeskSession.{DeskState}
use Rattle.lx_console.specs.ConsoleMeaning.{StandsFor}
use Rattle.lx_session.specs.Attempts.{after_commands}

-- The session of a desk has come to this state: the console stands for its desk, which is that after the commands that were accepted since
-- the beginning, and they were heard of.
pub record HasDone (heard : List Command → Type 0) (d : Desk) (console : Kept) (state : DeskState) : Type 0 where
  pub stands : StandsFor state.desk console
  pub desk : state.desk ≡ after_commands d state.accepted
  pub listened : heard state.accepted

-- where a session began: the listener, and the desk
pub record Beginning (L : Type 0) : Type 0 where
  pub listener : L
  pub desk : Desk

-- since then it has come to this state
abbrev pub HasHeard : {L : Type 0} → (L → L → List Command → Type 0) → Beginning L → DeskState → L → Kept → Type 0
HasHeard heard first state listener console = HasDone (heard first.listener listener) first.desk console state
