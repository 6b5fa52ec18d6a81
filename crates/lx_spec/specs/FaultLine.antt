-- The line of a refused show, which every job writes in place of its own text.
use Rattle.std.specs.Prelude.{ℕ, Result, Ok, Err, List, [], ◌∷◌, codes, decimal}
use Rattle.lx_spec.specs.declared.TextFault.{TextFault}
use Rattle.lx_spec.specs.declared.TextFault.TheVariants.{NoIdent, BadNumber, OutOfRange, NotInRecord, LineTooLong, ShortList, NoEndData}
use Rattle.lx_spec.specs.Reading.{Reading}
use Rattle.lx_spec.specs.ShowText.{line}

-- show CAUSE LINE
abbrev pub fault_words : TextFault → List (List ℕ)
fault_words (NoIdent i) = codes "NoIdent" ∷ decimal i ∷ []
fault_words (BadNumber i) = codes "BadNumber" ∷ decimal i ∷ []
fault_words (OutOfRange i) = codes "OutOfRange" ∷ decimal i ∷ []
fault_words (NotInRecord i) = codes "NotInRecord" ∷ decimal i ∷ []
fault_words (LineTooLong i) = codes "LineTooLong" ∷ decimal i ∷ []
fault_words (ShortList i) = codes "ShortList" ∷ decimal i ∷ []
fault_words (NoEndData i) = codes "NoEndData" ∷ decimal i ∷ []

abbrev pub fault_text : TextFault → List ℕ
fault_text fault = line (codes "show" ∷ fault_words fault)

-- the job's text for the show that was read, or the fault
abbrev pub over_show : Result Reading TextFault → (Reading → List ℕ) → List ℕ
over_show (Ok reading) job = job reading
over_show (Err fault) job = fault_text fault
