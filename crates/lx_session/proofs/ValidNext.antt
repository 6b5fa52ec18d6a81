-- The command to attempt next is a valid one.
use Rattle.lx_session.proofs.Imports.{◌≡◌, Option, Some, IfSome, sym, subst, Command, Line, command_of, LineState, next_of}
use Rattle.lx_spec.specs.declared.Command.TheVariants as commands
use Rattle.lx_spec.specs.declared.Line.TheVariants as lines
use Rattle.lx_spec.specs.ValidEdit.{ValidCommand, ValidLine}
use Rattle.lx_session.proofs.AttemptSteps.{next_is}

valid_of : (meaning : Option Line) (c : Command) → IfSome meaning ValidLine → command_of meaning ≡ Some c → ValidCommand c
valid_of (Some (lines.Command command)) c valid is = let same : command ≡ c = cc in subst ValidCommand same valid
valid_of (Some (lines.Ticks k)) c valid is = let tick : commands.Tick ≡ c = cc in subst ValidCommand tick tt
valid_of other c valid is = cc

pub valid_next : (old turn : LineState) (c : Command) → IfSome old.meaning ValidLine → turn.meaning ≡ old.meaning → next_of turn ≡ Some c
    → ValidCommand c
valid_next old turn c valid same some =
    valid_of turn.meaning c (subst (λ (m : Option Line). IfSome m ValidLine) (sym same) valid) (next_is turn c some).command
