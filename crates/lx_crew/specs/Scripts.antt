-- What an operator's lines are.
use Rattle.std.specs.Prelude.{◌≡◌, ◌≢◌, ◌≤◌, ◌<◌, ℕ, false, Option, Some, None, IfSome, List, take, length}
use Rattle.std.specs.List.{AllByRecursion}
use Rattle.lx_base.specs.declared.TheConstants.{INPUT_BYTES}
use Rattle.lx_io.specs.Causes.{Rose}
use Rattle.lx_io.specs.Told.{ToldBySource}
use Rattle.lx_spec.specs.Text.{lines_of}
use Rattle.lx_spec.specs.CutInput.{CutOff}
use Rattle.lx_spec.specs.CrewText.{lines_up_to_quit}
use Rattle.lx_spec.specs.Session.{ends_script, lines_wanted, bytes_wanted}
use Rattle.lx_crew.specs.declared.fault.OperatorFault.{OperatorFault}
use Rattle.lx_crew.specs.declared.fault.OperatorFault.TheVariants.{ReadFault, InputTooLong}

-- These are all lines that are wanted, and they are within the limit of the input.
pub record AllLines (bytes : List ℕ) (lines : List (List ℕ)) : Type 0 where
  pub are : lines ≡ lines_up_to_quit bytes
  pub within : length (bytes_wanted bytes) ≤ INPUT_BYTES

-- These are the lines that were taken whole, none of them is `quit`, and the operator wants more. `left` is what the source has left.
pub record CutLines (bytes : List ℕ) (left : Option (List ℕ)) (lines : List (List ℕ)) : Type 0 where
  pub cut : CutOff 0 bytes left
  pub short : cut.lines < lines_wanted (lines_of bytes)
  pub are : lines ≡ take cut.lines (lines_of bytes)
  pub go_on : AllByRecursion (λ line. ends_script line ≡ false) lines

-- An operator's lines, by its fault. `InputTooLong` is told only where a line that is wanted has a byte past the limit.
abbrev pub AreLines : Option OperatorFault → List ℕ → Option (List ℕ) → List (List ℕ) → Type 0
AreLines None bytes left lines = AllLines bytes lines
AreLines (Some ReadFault) bytes left lines = CutLines bytes left lines
AreLines (Some InputTooLong) bytes left lines = CutLines bytes left lines × (INPUT_BYTES < length (bytes_wanted bytes))

-- An operator ended, from its source before to its source after, with these lines. `ReadFault` is told only where the source's count rose,
-- and where it isn't told the count stands as it was.
pub record ScriptHasEnded {S : Type 0} (told : ToldBySource S) (source source' : S) (fault : Option OperatorFault)
    (lines : List (List ℕ)) : Type 0 where
  pub are : IfSome (told.left source) (λ bytes. AreLines fault bytes (told.left source') lines)
  pub later : told.faults source ≤ told.faults source'
  pub failed : fault ≡ Some ReadFault → Rose (told.faults source) (told.faults source')
  pub kept : fault ≢ Some ReadFault → told.faults source' ≡ told.faults source
