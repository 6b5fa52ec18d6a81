-- A gate beside the console whose frames it publishes.
use Rattle.std.specs.Prelude.{◌+◌, ◌-◌, ◌^◌, ◌<◌, List, ◌++◌, length}
use Rattle.lx_spec.specs.declared.Command.{Command}
use Rattle.lx_spec.specs.Show.{Show}
use Rattle.lx_spec.specs.Desk.{replay}
use Rattle.lx_spec.specs.Kept.{Kept}
use Rattle.lx_console.specs.ConsoleMeaning.{StandsFor}
use Rattle.lx_gate.specs.Gates.{Published, IsEntered}

-- the console stands for the desk after what is published and what isn't yet, and these aren't too many to count
pub record IsInStep (show : Show) (gate : Published) (unsent : List Command) (console : Kept) : Type 0 where
  pub stands : StandsFor (replay show (gate.published ++ unsent)) console
  pub few : length gate.published + length unsent < 2 ^ 64 - 1
  pub entered : IsEntered gate unsent
