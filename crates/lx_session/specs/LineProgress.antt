-- How far the attempts at a line's command have come.
use Rattle.std.specs.Prelude.{◌≡◌, ◌≤◌, ◌<◌, ◌-◌, ℕ, Bool, true, Option, Some, None, List, [], ◌∷◌, ◌++◌, IsOk, IsOkAnd, is_some}
use Rattle.std.specs.Option.{option_map_or}
use Rattle.lx_spec.specs.declared.Command.{Command}
use Rattle.lx_spec.specs.declared.Command.TheVariants as commands
use Rattle.lx_spec.specs.declared.Refusal.{Refusal}
use Rattle.lx_spec.specs.declared.Refusal.TheVariants.{Memory}
use Rattle.lx_spec.specs.Desk.{Desk, step}
use Rattle.lx_spec.specs.WantedMemory.{may_lack_memory}
use Rattle.lx_spec.specs.Kept.{Kept}
use Rattle.lx_spec.specs.DeskSession.{DeskState, Attempt, attempts_for, command_of}
use Rattle.lx_console.specs.ConsoleMeaning.{StandsFor}
use Rattle.lx_console.specs.Ticks.{after_ticks}
use Rattle.lx_session.specs.LineState.{LineState, next_of}
use Rattle.lx_session.specs.Attempts.{after_commands}

-- the attempts that are left, unless one was refused
abbrev pub resumed : Option ℕ → Option Command → ℕ → Option Refusal → DeskState → Attempt
resumed failed command left refusal t =
    option_map_or (λ r. record { state = t; refusal = Some r }) refusal (attempts_for failed command left t)

-- an attempt at the command failed at this desk: the command is an edit that may take memory, and that the desk accepts
pub record CommandHasFailed (d : Desk) (command : Option Command) : Type 0 where
  pub wanted : Command
  pub is : command ≡ Some wanted
  pub takes_some : may_lack_memory wanted ≡ true
  pub accepted : IsOk (step d wanted)

-- From a state on, the attempts of a line have come to this one, for which the console stands, and the commands that were accepted were
-- heard of. Where one of those that are left will fail, `at` tells which one of all it is; where none will, the one that did, if one did.
-- Where all are admitted, none fails but at an edit that may take memory and that the desk accepts. One that fails is refused with Memory.
pub record LineProgress (all : Bool) (heard : List Command → Type 0) (s : DeskState) (old turn : LineState) (console : Kept) : Type 0 where
  pub now : DeskState
  pub at : Option ℕ → Option ℕ
  pub commands : List Command
  pub meaning : turn.meaning ≡ old.meaning
  pub by : (failed : Option ℕ) → attempts_for (at failed) (command_of old.meaning) old.left s
      ≡ resumed failed (command_of old.meaning) turn.left turn.refusal now
  pub not_yet : turn.refusal ≡ None → at None ≡ None
  pub stands : StandsFor now.desk console
  pub accepted : now.accepted ≡ s.accepted ++ commands
  pub desk : now.desk ≡ after_commands s.desk commands
  pub listened : heard commands
  pub fewer : turn.left ≤ old.left
  pub fresh : turn.left ≡ old.left → now.desk ≡ s.desk
  pub at_edit : is_some (at None) ≡ true → all ≡ true → CommandHasFailed now.desk (command_of old.meaning)
  pub by_memory : is_some (at None) ≡ true → turn.refusal ≡ Some Memory
  pub still : old.left ≤ 1 → is_some turn.refusal ≡ true → now.desk ≡ s.desk

-- Some attempts at ticks were made at once and accepted, if any; each may be taken as heard of.
pub record HasPassed (heard : List Command → Type 0) (before after : LineState) (old new : Kept) : Type 0 where
  pub ticks : ℕ
  pub within : ticks ≤ before.left
  pub tick : 0 < ticks → next_of before ≡ Some commands.Tick
  pub listened : 0 < ticks → heard (commands.Tick ∷ [])
  pub turn : after ≡ record before { left = before.left - ticks }
  pub stands : (d : Desk) → StandsFor d old → IsOkAnd (after_ticks ticks d) (λ next. StandsFor next new)
