-- What is written for a script over the show that stands before it, and how much of the input is wanted.
use Rattle.std.specs.Prelude.{ℕ, ◌+◌, Option, Result, Ok, Err, List, []}
use Rattle.lx_spec.specs.declared.Form.{Form}
use Rattle.lx_spec.specs.declared.ScriptKind.{ScriptKind}
use Rattle.lx_spec.specs.declared.TextFault.{TextFault}
use Rattle.lx_spec.specs.Text.{lines_of}
use Rattle.lx_spec.specs.Reading.{Reading, reads, lines_read, script_of}
use Rattle.lx_spec.specs.CutInput.{first_lines}
use Rattle.lx_spec.specs.FaultLine.{over_show}
use Rattle.lx_spec.specs.Session.{Session, whole_session, session_after, Allows, lines_wanted}
use Rattle.lx_spec.specs.ScriptKinds.{answering_of, opening_of}

-- the session of the script over the show that was read
abbrev pub script_session : (kind : ScriptKind) → List ℕ → List (Option ℕ) → Reading → Session (answering_of kind).State
script_session kind bytes failures reading = whole_session (answering_of kind) (opening_of kind reading.show) (script_of bytes) failures

-- the replies to the script over the show that was read, or the line of a refused show
abbrev pub script_output : ScriptKind → Form → List ℕ → List (Option ℕ) → List ℕ
script_output kind form bytes failures = over_show (reads form bytes) (λ reading. (script_session kind bytes failures reading).text)

-- attempts of the script failed only where they may
abbrev pub ScriptAllows : ScriptKind → List ℕ → List (Option ℕ) → Result Reading TextFault → Type 0
ScriptAllows kind bytes failures (Ok reading) = Allows (answering_of kind) (opening_of kind reading.show) (script_of bytes) failures
ScriptAllows kind bytes failures (Err fault) = Unit {0}

-- the replies to the first n lines of the script, where the show is read
abbrev pub first_replies : ScriptKind → List ℕ → List (Option ℕ) → ℕ → Result Reading TextFault → List ℕ
first_replies kind bytes failures lines (Ok reading) =
    (session_after (answering_of kind) (opening_of kind reading.show) (script_of bytes) failures lines).text
first_replies kind bytes failures lines (Err fault) = []

-- how many lines of an input are wanted: those of the show and, where it is read, those of the script
abbrev pub input_lines_wanted : List ℕ → Result Reading TextFault → ℕ
input_lines_wanted bytes (Ok reading) = lines_read (lines_of bytes) + lines_wanted (script_of bytes)
input_lines_wanted bytes (Err fault) = lines_read (lines_of bytes)

-- the bytes of an input that are wanted
abbrev pub input_wanted : Form → List ℕ → List ℕ
input_wanted form bytes = first_lines (input_lines_wanted bytes (reads form bytes)) bytes
