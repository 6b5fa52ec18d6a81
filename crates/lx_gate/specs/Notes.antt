-- What a note tells.
use Rattle.std.specs.Prelude.{◌≡◌, ℕ, List}
use Rattle.logbook.specs.Pages.{Book}
use Rattle.lx_spec.specs.Show.{Show}
use Rattle.lx_spec.specs.declared.Command.{Command}
use Rattle.lx_gate.specs.declared.note.Note.{Note}
use Rattle.lx_gate.specs.CommandLists.{flat, longest}
use Rattle.lx_gate.specs.declared.stamp.Stamp.{Stamp}
use Rattle.lx_gate.specs.Frames.{IsVersion, IsFrame}

-- the commands that led to a note
abbrev pub commands_of_note : Note → List Command
commands_of_note note = flat note.seen.log

-- the note is of the gate over this show, with this history
pub record IsNoteOf (show : Show) (book : Book) (note : Note) : Type 0 where
  pub book_is : note.seen.book ≡ book
  pub version : IsVersion show (commands_of_note note) note.slots note.count note.moment

-- slots and stamp of a version became those of the note, where its list is longer
abbrev pub KeepsLater : Note → ℕ → List ℕ → Stamp → List ℕ → Stamp → Type 0
KeepsLater note universe slots stamp slots' stamp' =
    (show : Show) (list : List Command) → IsVersion show (commands_of_note note) note.slots note.count note.moment
    → IsFrame show list universe slots stamp → IsFrame show (longest list (commands_of_note note)) universe slots' stamp'
