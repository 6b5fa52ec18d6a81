-- The jobs of the program: the words that name each, what it is given, and what it writes.
use Rattle.std.specs.Prelude.{ℕ, ◌==◌, Bool, false, Option, Some, None, Result, List, [], ◌∷◌, option_and_then, option_map, codes, bytes_eq}
use Rattle.std.specs.Prelude.{if◌then◌else◌}
use Rattle.lx_base.specs.declared.TheConstants.{CUES, UNIVERSES, OPERATORS}
use Rattle.lx_spec.specs.declared.Form.{Form}
use Rattle.lx_spec.specs.declared.Form.TheVariants.{Moves, States}
use Rattle.lx_spec.specs.declared.Job.{Job}
use Rattle.lx_spec.specs.declared.Job.TheVariants.{Check, Sheet, Make, Script, Crew}
use Rattle.lx_spec.specs.declared.ScriptKind.TheVariants.{Render, Live, Undo, Two}
use Rattle.lx_spec.specs.declared.TextFault.{TextFault}
use Rattle.lx_spec.specs.Text.{lines_of}
use Rattle.lx_spec.specs.Numerals.{read_whole}
use Rattle.lx_spec.specs.Phrase.{ended, read_as}
use Rattle.lx_spec.specs.Reading.{Reading, reads, lines_read}
use Rattle.lx_spec.specs.CutInput.{first_lines}
use Rattle.lx_spec.specs.FaultLine.{over_show}
use Rattle.lx_spec.specs.CheckOutput.{check_output}
use Rattle.lx_spec.specs.SheetOutput.{sheet_output}
use Rattle.lx_spec.specs.ScriptOutput.{script_output, ScriptAllows, first_replies, input_lines_wanted, input_wanted}
use Rattle.lx_spec.specs.MakeOutput.{made_input, make_output}

-- the form that the last words of a job name
abbrev pub form_of : List (List ℕ) → Option Form
form_of [] = Some Moves
form_of (word ∷ rest) = if bytes_eq word (codes "states") then ended rest States else None

abbrev pub leads_with_zero : List ℕ → Bool
leads_with_zero [] = false
leads_with_zero (b ∷ bs) = b == 48

-- a whole number among the words, from 1 up to the most: digits without a leading zero
abbrev pub plain_number : ℕ → List ℕ → Option ℕ
plain_number most word = if leads_with_zero word then None else read_as (read_whole 1 most word)

-- one number, and no word behind it
abbrev pub number_alone : ℕ → List (List ℕ) → Option ℕ
number_alone most [] = None
number_alone most (word ∷ rest) = option_and_then (ended rest) (plain_number most word)

-- a number and a form, for a job that is named by both
abbrev pub counted_job : ℕ → (ℕ → Form → Job) → List (List ℕ) → Option Job
counted_job most job [] = None
counted_job most job (word ∷ rest) = option_and_then (λ n. option_map (job n) (form_of rest)) (plain_number most word)

-- the job that a list of words names, if they are one of the forms
abbrev pub job_of : List (List ℕ) → Option Job
job_of [] = None
job_of (name ∷ rest) =
    if bytes_eq name (codes "check") then option_map Check (form_of rest)
    else if bytes_eq name (codes "render") then option_map (Script Render) (form_of rest)
    else if bytes_eq name (codes "sheet") then option_map Sheet (form_of rest)
    else if bytes_eq name (codes "make") then option_map Make (number_alone CUES rest)
    else if bytes_eq name (codes "run") then counted_job UNIVERSES (λ universes. Script (Live universes)) rest
    else if bytes_eq name (codes "undo") then option_map (Script Undo) (form_of rest)
    else if bytes_eq name (codes "two") then option_map (Script Two) (form_of rest)
    else if bytes_eq name (codes "crew") then counted_job OPERATORS Crew rest
    else None

-- the bytes that a job is given, where its source tells what it has left: `make` is given none
abbrev pub given_to : Job → Option (List ℕ) → Option (List ℕ)
given_to (Make n) left = Some []
given_to other left = left

-- the show that a job is about
abbrev pub show_of : Job → List ℕ → Result Reading TextFault
show_of (Check form) bytes = reads form bytes
show_of (Sheet form) bytes = reads form bytes
show_of (Make n) bytes = reads Moves (made_input n)
show_of (Script kind form) bytes = reads form bytes
show_of (Crew operators form) bytes = reads form bytes

-- What a job writes, where these attempts of its script failed. Of a crew it is the line of a refused show: what is written over a show
-- that is read depends on the operators' scripts besides.
abbrev pub output_of : Job → List ℕ → List (Option ℕ) → List ℕ
output_of (Check form) bytes failures = check_output form bytes
output_of (Sheet form) bytes failures = sheet_output form bytes
output_of (Make n) bytes failures = make_output n failures
output_of (Script kind form) bytes failures = script_output kind form bytes failures
output_of (Crew operators form) bytes failures = over_show (reads form bytes) (λ reading. [])

-- the replies of a job to the first n lines of its script; none where it has no script, or the show is refused
abbrev pub replies_of : Job → List ℕ → List (Option ℕ) → ℕ → List ℕ
replies_of (Script kind form) bytes failures lines = first_replies kind bytes failures lines (reads form bytes)
replies_of other bytes failures lines = []

-- attempts of its script failed only where they may
abbrev pub JobAllows : Job → List ℕ → List (Option ℕ) → Type 0
JobAllows (Make n) bytes failures = ScriptAllows Render (made_input n) failures (reads Moves (made_input n))
JobAllows (Script kind form) bytes failures = ScriptAllows kind bytes failures (reads form bytes)
JobAllows other bytes failures = Unit {0}

-- the bytes of an input that a show text wants
abbrev pub show_wanted : List ℕ → List ℕ
show_wanted bytes = first_lines (lines_read (lines_of bytes)) bytes

-- how many lines of a job's input are wanted
abbrev pub lines_wanted_of : Job → List ℕ → ℕ
lines_wanted_of (Make n) bytes = 0
lines_wanted_of (Script kind form) bytes = input_lines_wanted bytes (reads form bytes)
lines_wanted_of other bytes = lines_read (lines_of bytes)

-- the bytes of a job's input that are wanted
abbrev pub wanted_of : Job → List ℕ → List ℕ
wanted_of (Make n) bytes = input_wanted Moves (made_input n)
wanted_of (Script kind form) bytes = input_wanted form bytes
wanted_of other bytes = show_wanted bytes
