-- Attempts at a command on a console.
use Rattle.std.specs.Prelude.{◌≡◌, Bool, true, false, Option, Some, None, List, [], ◌∷◌, fold}
use Rattle.std.specs.Result.{IsOkAnd}
use Rattle.lx_spec.specs.declared.Command.{Command}
use Rattle.lx_spec.specs.declared.Refusal.{Refusal}
use Rattle.lx_spec.specs.declared.Refusal.TheVariants.{Memory}
use Rattle.lx_spec.specs.Desk.{Desk, step, after_command}
use Rattle.lx_spec.specs.Kept.{Kept}
use Rattle.lx_console.specs.ConsoleMeaning.{StandsFor, Refuses}

-- the desk after commands, in order
abbrev pub after_commands : Desk → List Command → Desk
after_commands d commands = fold after_command d commands

-- a command that wasn't admitted is refused with Memory, and any other as the console refuses it
abbrev pub RefusesAttempt : Bool → Desk → Command → Refusal → Type 0
RefusesAttempt true d command refusal = Refuses d command refusal
RefusesAttempt false d command refusal = refusal ≡ Memory

-- a command that wasn't admitted is never accepted, and any other as the desk accepts it
abbrev pub AcceptsAttempt : Bool → Desk → Command → Kept → Type 0
AcceptsAttempt true d command console = IsOkAnd (step d command) (λ next. StandsFor next console)
AcceptsAttempt false d command console = ⊥

-- An attempt: accepted, and the console stands for the desk after it; or refused, and it stands for the same.
abbrev pub Attempted : Bool → Desk → Command → Option Refusal → Kept → Type 0
Attempted admitted d command None console = AcceptsAttempt admitted d command console
Attempted admitted d command (Some refusal) console = StandsFor d console × RefusesAttempt admitted d command refusal

-- Whatever desk the console stood for before accepts the command, and now it stands for the desk after it.
abbrev pub AcceptedStep : Kept → Command → Kept → Type 0
AcceptedStep before command console = (d : Desk) → StandsFor d before → IsOkAnd (step d command) (λ next. StandsFor next console)

-- An attempt where some commands may not be admitted; `all` says that all are.
pub record ListenedAttempt (all : Bool) (d : Desk) (command : Command) (refusal : Option Refusal) (console : Kept) : Type 0 where
  pub admitted : Bool
  pub is_all : all ≡ true → admitted ≡ true
  pub attempted : Attempted admitted d command refusal console

-- a command is heard of where it wasn't refused
abbrev pub heard_of : Command → Option Refusal → List Command
heard_of command None = command ∷ []
heard_of command (Some refusal) = []
