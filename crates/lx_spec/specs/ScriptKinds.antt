-- The kinds of script: what answers the lines of each, and where it stands as it is opened over a show.
use Rattle.std.specs.Prelude.{ℕ, true, false, List}
use Rattle.lx_base.specs.declared.TheConstants.{UNDO_DEPTH}
use Rattle.lx_spec.specs.declared.ScriptKind.{ScriptKind}
use Rattle.lx_spec.specs.declared.ScriptKind.TheVariants.{Render, Live, Undo, Two}
use Rattle.lx_spec.specs.Show.{Show}
use Rattle.lx_spec.specs.Desk.{opened}
use Rattle.lx_spec.specs.Session.{Answering}
use Rattle.lx_spec.specs.DeskSession.{begun, desk_answering}
use Rattle.lx_spec.specs.Undo.{opened_with}
use Rattle.lx_spec.specs.UndoSession.{undo_answering}
use Rattle.lx_spec.specs.TwoLists.{opened_two, two_answering}

-- live, an attempt may fail at any line, where so many commands were accepted that no more are admitted
abbrev pub answering_of : ScriptKind → Answering (List ℕ)
answering_of Render = desk_answering true
answering_of (Live universes) = desk_answering false
answering_of Undo = undo_answering
answering_of Two = two_answering

abbrev pub opening_of : (kind : ScriptKind) → Show → (answering_of kind).State
opening_of Render show = begun (opened show)
opening_of (Live universes) show = begun (opened show)
opening_of Undo show = opened_with show UNDO_DEPTH
opening_of Two show = opened_two show
