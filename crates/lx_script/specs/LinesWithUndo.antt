-- What a line means where edits can be undone.
use Rattle.std.specs.Prelude.{◌≡◌, ℕ, Option, Some, None, IfSome, List}
use Rattle.lx_spec.specs.declared.Line.{Line}
use Rattle.lx_spec.specs.declared.UndoLine.{UndoLine}
use Rattle.lx_spec.specs.Phrase.{Tokens}
use Rattle.lx_spec.specs.Script.{line_of, meaning}
use Rattle.lx_spec.specs.UndoSession.{undo_line_of, undo_meaning}
use Rattle.lx_spec.specs.ValidEdit.{ValidLine}
use Rattle.lx_script.specs.UndoLines.{NamesCue}
use Rattle.lx_script.specs.declared.undo_line.LineWithUndo.{LineWithUndo}
use Rattle.lx_script.specs.declared.undo_line.LineWithUndo.TheVariants.{OfHistory, OfDesk}

-- it is for the history where this is asked of it, of a cue if it names one, and else for the desk, to which it means this
abbrev pub IsReadOf : LineWithUndo → Option UndoLine → Option Line → Type 0
IsReadOf (OfHistory what) asked told = (asked ≡ Some what) × NamesCue what
IsReadOf (OfDesk meant) asked told = (asked ≡ None) × (meant ≡ told)

-- of a line
abbrev pub IsReadWithUndo : LineWithUndo → List ℕ → Type 0
IsReadWithUndo read line = IsReadOf read (undo_line_of line) (line_of line)

-- of a line of any length with these tokens
abbrev pub MeansWithUndo : LineWithUndo → List ℕ → Tokens → Type 0
MeansWithUndo read line words = IsReadOf read (undo_meaning words) (meaning line words)

-- its numbers are in their range
abbrev pub IsValidWithUndo : LineWithUndo → Type 0
IsValidWithUndo (OfHistory what) = NamesCue what
IsValidWithUndo (OfDesk meant) = IfSome meant ValidLine
