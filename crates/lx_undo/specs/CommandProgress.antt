-- How far the commands of a line have brought a desk with its history.
use Rattle.std.specs.Prelude.{ℕ, ◌≤◌, List, length, if◌then◌else◌}
use Rattle.std.specs.List.{list_any}
use Rattle.lx_spec.specs.declared.Command.{Command}
use Rattle.lx_spec.specs.Desk.{is_edit}
use Rattle.lx_spec.specs.Undo.{UndoState, replaced}
use Rattle.lx_session.specs.Attempts.{after_commands}
use Rattle.lx_undo.specs.UndoDeskMeaning.{UndoKept, UndoStands}

-- the state after commands of one line, of which an edit is alone
abbrev pub reached : UndoState → List Command → UndoState
reached s commands =
    record (if list_any is_edit commands then replaced s s.desk else s) { desk = after_commands s.desk commands }

-- the desk stands for the state after these commands, which are no more than this many
pub record HasReached (s : UndoState) (u : UndoKept) (most : ℕ) (commands : List Command) : Type 0 where
  pub few : length commands ≤ most
  pub stands : UndoStands (reached s commands) u
