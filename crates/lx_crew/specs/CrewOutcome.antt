-- What a crew comes to.
use Rattle.std.specs.Prelude.{◌≡◌, ℕ, ◌+◌, ◌<◌, List, [], length, Option, Some, None, slice_get}
use Rattle.lx_io.specs.declared.sink.SinkFault.{SinkFault}
use Rattle.lx_io.specs.Told.{ToldBySink, ToldBySource}
use Rattle.lx_spec.specs.Desk.{Desk}
use Rattle.lx_spec.specs.Kept.{Kept}
use Rattle.lx_session.specs.declared.tally.Tally.{Tally}
use Rattle.lx_crew.specs.declared.fault.OperatorFault.{OperatorFault}
use Rattle.lx_crew.specs.Scripts.{ScriptHasEnded}
use Rattle.lx_crew.specs.Transcripts.{WholeTranscript, StoppedTranscript}

-- an operator's source is back in its place, and these were its lines
pub record ScriptIsBack {S : Type 0} (told_in : ToldBySource S) (places : List (Option S)) (told : List (Option OperatorFault))
    (place : ℕ) (start : S) (lines : List (List ℕ)) : Type 0 where
  pub source : S
  pub fault : Option OperatorFault
  pub place_is : slice_get places place ≡ Some (Some source)
  pub fault_is : slice_get told place ≡ Some fault
  pub ended : ScriptHasEnded told_in start source fault lines

-- the transcript, or a prefix of one where the output had a fault, and then no line behind it is done
abbrev pub HasWrittenTranscript : {K : Type 0} → (most : Option ℕ) → ToldBySink K → Desk → (ℕ → List (List ℕ)) → (sink sink' : K) → Kept → Tally
    → Option SinkFault → Type 0
HasWrittenTranscript most told d lines sink sink' console tally None =
    WholeTranscript most d lines (told.holds sink) (told.holds sink') console tally
HasWrittenTranscript most told d lines sink sink' console tally (Some fault) = StoppedTranscript most told d lines sink sink' console

-- Each place has its source again. `lines` are each operator's, which are numbered from 1; past them there are none, and no fault is told.
-- No more of their lines failed than so many, where a number is known.
pub record HasCrewed {S K : Type 0} (most : Option ℕ) (told_in : ToldBySource S) (told_out : ToldBySink K) (d : Desk)
    (places places' : List (Option S)) (sink sink' : K) (console : Kept) (tally : Tally) (output : Option SinkFault)
    (told : List (Option OperatorFault)) : Type 0 where
  pub lines : ℕ → List (List ℕ)
  pub same_places : length places' ≡ length places
  pub each : (place : ℕ) (start : S) → slice_get places place ≡ Some (Some start)
      → ScriptIsBack told_in places' told place start (lines (place + 1))
  pub none : lines 0 ≡ []
  pub no_more : (operator : ℕ) → length places < operator → lines operator ≡ []
  pub others : (place : ℕ) (fault : OperatorFault) → slice_get told place ≡ Some (Some fault) → place < length places
  pub written : HasWrittenTranscript most told_out d lines sink sink' console tally output
