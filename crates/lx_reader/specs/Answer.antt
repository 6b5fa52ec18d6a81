-- What reading a show from the lines of a source comes to.
use Rattle.std.specs.Prelude.{◌≡◌, ◌≤◌, ◌⊎◌, ℕ, ◌+◌, Result, Ok, Err, List, [], ◌∷◌, IfSome}
use Rattle.std.specs.Io.KnownBytes.{IsAtEnd}
use Rattle.lx_io.specs.Told.{ToldBySource}
use Rattle.lx_spec.specs.declared.TextFault.{TextFault}
use Rattle.lx_spec.specs.declared.TextFault.TheVariants.{NoEndData}
use Rattle.lx_spec.specs.declared.Form.{Form}
use Rattle.lx_spec.specs.Text.{without_cr}
use Rattle.lx_spec.specs.Show.{Valid}
use Rattle.lx_spec.specs.LineRules.{entry_of}
use Rattle.lx_spec.specs.Reading.{Reading}
use Rattle.lx_lex.specs.declared.lines.Lines.{Lines}
use Rattle.lx_lex.specs.declared.lines.Step.TheVariants as steps
use Rattle.lx_lex.specs.CutOff.{NotTaken}
use Rattle.lx_lex.specs.Lines.{StepOf}
use Rattle.lx_lex.specs.LinesHandedOut.{HandedOut}
use Rattle.lx_lex.specs.Unread.{unread, current_line}
use Rattle.lx_reader.specs.declared.fault.ShowFault.{ShowFault}
use Rattle.lx_reader.specs.declared.fault.ShowFault.TheVariants as faults
use Rattle.lx_reader.specs.declared.loaded.Loaded.{Loaded}
use Rattle.lx_reader.specs.declared.reader.Reader.{Reader}
use Rattle.lx_reader.specs.HandedLines.{MeansShow, MeansFault, IsPastLimit, IsCutShort}
use Rattle.lx_reader.specs.LineOutcome.{facts_of, state_of, Outcome}
use Rattle.lx_reader.specs.ReadingState.{final_reading}

-- what was read
abbrev pub reading_of : Loaded → Reading
reading_of loaded = record { show = loaded.show; skipped = loaded.skipped; first_skipped = loaded.first_skipped }

-- the lines up to ENDDATA were handed out, and mean what was read, which is valid
pub record HasRead {S : Type 0} (told : ToldBySource S) (old new : Lines S) (form : Form) (loaded : Loaded)
    : Type 0 where
  pub means : MeansShow told old new form (reading_of loaded)
  pub valid : Valid loaded.show

-- what holds of a fault: of a text, of an input that is too long, or of a read
abbrev pub OfText : (TextFault → Type 0) → Type 0 → Type 0 → ShowFault → Type 0
OfText P long cut (faults.Text fault) = P fault
OfText P long cut faults.InputTooLong = long
OfText P long cut faults.ReadFault = cut
OfText P long cut other = Unit {0}

-- the lines that were taken whole are too few
abbrev pub CutShort : {S : Type 0} → ToldBySource S → Lines S → Lines S → Type 0
CutShort told old new = IfSome (unread told old) (λ bytes. IsCutShort old.taken bytes (told.left new.source.now))

-- what the answer says: the show, or the first fault of the text, or that there was none before the input was too long or a read failed
abbrev pub AnswerOf : {S : Type 0} → ToldBySource S → Lines S → Lines S → Form → Result Loaded ShowFault → Type 0
AnswerOf told old new form (Ok loaded) = HasRead told old new form loaded
AnswerOf told old new form (Err fault) =
    OfText (MeansFault told old form) (IfSome (unread told old) (IsPastLimit old.taken) × CutShort told old new) (CutShort told old new) fault

-- the line that was handed out has the fault, or no line is left
abbrev pub FaultOf : {S : Type 0} → ToldBySource S → Lines S → Lines S → Reader → TextFault → Type 0
FaultOf told old new r fault =
    ((raw : List ℕ) × HandedOut told old new (raw ∷ []) × (entry_of (facts_of r (old.number + 1)) (without_cr raw) ≡ Err fault))
    ⊎ (IsAtEnd (unread told old) × (fault ≡ NoEndData (old.number + 1)))

-- what one line comes to: it was handed out and taken up, or has a fault, or isn't there
abbrev pub TurnOf : {S : Type 0} → ToldBySource S → Lines S → Lines S → Reader → Reader → Result (Unit {0}) ShowFault → Type 0
TurnOf told old new r q (Ok done) =
    (raw : List ℕ) × HandedOut told old new (raw ∷ [])
    × Outcome r q (old.number + 1) (Ok done) (entry_of (facts_of r (old.number + 1)) (without_cr raw))
TurnOf told old new r q (Err fault) =
    OfText (FaultOf told old new r) (StepOf steps.InputTooLong (unread told old) (unread told new) old.taken new.taken (current_line new))
    (NotTaken told old new) fault

-- what was read, by its form; only memory may run out
pub record HasLoaded (form : Form) (r : Reader) (loaded : Loaded) : Type 0 where
  pub reading : reading_of loaded ≡ final_reading form (state_of r)
  pub least : IfSome r.channels_set (λ n. 1 ≤ n)
  pub valid : Valid loaded.show

abbrev pub IsLoaded : Form → Reader → Result Loaded ShowFault → Type 0
IsLoaded form r (Ok loaded) = HasLoaded form r loaded
IsLoaded form r (Err fault) = fault ≡ faults.Memory
