-- What the commands of a line on one list make of the other.
use Rattle.std.specs.Prelude.{List, filter, fold}
use Rattle.lx_spec.specs.declared.Command.{Command}
use Rattle.lx_spec.specs.Desk.{Desk, after_command}
use Rattle.lx_spec.specs.Kept.{Kept}
use Rattle.lx_spec.specs.TwoLists.{is_tick}
use Rattle.lx_console.specs.ConsoleMeaning.{StandsFor}

-- the console stands for the desk after the ticks among the commands
abbrev pub TicksReach : Desk → Kept → List Command → Type 0
TicksReach d console commands = StandsFor (fold after_command d (filter is_tick commands)) console

-- the console stands for the desk, whatever the commands
abbrev pub Stays : Desk → Kept → List Command → Type 0
Stays d console commands = StandsFor d console
