-- What a run of several operators comes to.
use Rattle.std.specs.Prelude.{◌≡◌, ◌⊎◌, ◌≢◌, ℕ, ◌+◌, ◌<◌, ◌≤◌, Option, Some, None, IsSome, Result, Ok, Err, List, []}
use Rattle.std.specs.Prelude.{length, take, drop, slice_get}
use Rattle.std.specs.Io.KnownBytes.{Appends}
use Rattle.lx_base.specs.declared.TheConstants.{INPUT_BYTES}
use Rattle.lx_io.specs.declared.sink.SinkFault.{SinkFault}
use Rattle.lx_io.specs.Causes.{Rose}
use Rattle.lx_io.specs.Puts.{AppendsFront}
use Rattle.lx_io.specs.Told.{ToldBySink, ToldBySource}
use Rattle.lx_spec.specs.declared.Form.{Form}
use Rattle.lx_spec.specs.declared.Job.{Job}
use Rattle.lx_spec.specs.declared.Job.TheVariants.{Crew}
use Rattle.lx_spec.specs.declared.TextFault.{TextFault}
use Rattle.lx_spec.specs.Show.{Show}
use Rattle.lx_spec.specs.Desk.{opened}
use Rattle.lx_spec.specs.Reading.{Reading, reads}
use Rattle.lx_spec.specs.FaultLine.{fault_text}
use Rattle.lx_spec.specs.Job.{show_wanted}
use Rattle.lx_spec.specs.CrewText.{CrewEntry, lines_up_to_quit, of_operator, numbered_from, Merged, crew_text, CrewAllows}
use Rattle.lx_session.specs.Known.{Known}
use Rattle.lx_crew.specs.declared.fault.OperatorFault.{OperatorFault}
use Rattle.lx_crew.specs.declared.fault.OperatorFault.TheVariants as ends
use Rattle.lx_base.specs.Places.{EachAt}
use Rattle.lx_crew.specs.CrewOutcome.{ScriptIsBack}
use Rattle.lx_crew.specs.Transcripts.{AppendsAtLeast, CrewAllowsBy, TranscriptPrefix, all_but_last}
use Rattle.lx_desk.specs.declared.desk.Status.{Status}
use Rattle.lx_desk.specs.declared.desk.Status.TheVariants as status
use Rattle.lx_session.specs.Spared.{ByRefusals}
use Rattle.lx_desk.specs.Endings.{EndsScript, HasEnded}
use Rattle.lx_desk.specs.Finished.{Finishes, HasWanted}
use Rattle.lx_desk.specs.Faults.{status_of_sink}

-- no operator has a fault
abbrev pub NoneTold : List (Option OperatorFault) → Type 0
NoneTold told = (place : ℕ) (fault : Option OperatorFault) → slice_get told place ≡ Some fault → fault ≡ None

-- this is the fault of the lowest operator that has one
pub record IsLowest (told : List (Option OperatorFault)) (fault : OperatorFault) : Type 0 where
  pub place : ℕ
  pub at : slice_get told place ≡ Some (Some fault)
  pub below : (lower : ℕ) (other : Option OperatorFault) → lower < place → slice_get told lower ≡ Some other → other ≡ None

-- The whole text of a crew was written: the lines of all operators, each once and in its operator's order, and each with its replies.
-- Attempts failed only at edits that may take memory, and here and below of no more lines than `most`, where such a number is known.
pub record WritesTranscript (most : Option ℕ) (show : Show) (lines : ℕ → List (List ℕ)) (held held' : Known) : Type 0 where
  pub entries : List CrewEntry
  pub merged : Merged lines entries
  pub failures : List (Option ℕ)
  pub allows : CrewAllowsBy most (opened show) entries failures
  pub text : Appends held held' (crew_text (opened show) entries failures)

-- What was written of these lines, by the status: the whole text, also after a fault of an operator, of which the lowest operator's is
-- told. After a fault of the output it is a prefix of the text of first lines of each operator, and that of all of them but the last is
-- written whole.
abbrev pub WritesLines : (most : Option ℕ) → Status → Show → (ℕ → List (List ℕ)) → List (Option OperatorFault) → (held held' : Known) → Type 0
WritesLines most status.Ok show lines told held held' = WritesTranscript most show lines held held' × NoneTold told
WritesLines most status.ReadFault show lines told held held' = WritesTranscript most show lines held held' × IsLowest told ends.ReadFault
WritesLines most status.InputTooLong show lines told held held' = WritesTranscript most show lines held held' × IsLowest told ends.InputTooLong
WritesLines most status.WriteFault show lines told held held' = TranscriptPrefix most (opened show) lines held held'
WritesLines most status.Memory show lines told held held' = TranscriptPrefix most (opened show) lines held held'
WritesLines most other show lines told held held' = ⊥

-- The first n operators were served over a show: each place has its source again, and `lines` has what was taken of it. Without a
-- fault of its own these are all its lines up to `quit` or the end, and with one those that were taken whole. No others have lines or a fault.
pub record Serves {S : Type 0} (most : Option ℕ) (told_in : ToldBySource S) (show : Show) (count : ℕ) (operators operators' : List (Option S))
    (held held' : Known) (s : Status) : Type 0 where
  pub lines : ℕ → List (List ℕ)
  pub told : List (Option OperatorFault)
  pub each : (place : ℕ) (start : S) → place < count → slice_get operators place ≡ Some (Some start)
      → ScriptIsBack told_in operators' told place start (lines (place + 1))
  pub none : lines 0 ≡ []
  pub no_more : (operator : ℕ) → count < operator → lines operator ≡ []
  pub others : (place : ℕ) (fault : OperatorFault) → slice_get told place ≡ Some (Some fault) → place < count
  pub written : WritesLines most s show lines told held held'

-- the same, or memory ran out before the first line, and then nothing was read or written
abbrev pub ServesOrWants : {S : Type 0} → (most : Option ℕ) → ToldBySource S → Show → ℕ → (operators operators' : List (Option S))
    → (held held' : Known) → Status → Type 0
ServesOrWants most told show count operators operators' held held' s =
    ((s ≡ status.Memory) × ((held' ≡ held) × (operators' ≡ operators)))
    ⊎ Serves most told show count operators operators' held held' s

-- The show was read, and the operators were served over it.
pub record ServesShow {S : Type 0} (most : Option ℕ) (told : ToldBySource S) (count : ℕ) (form : Form) (bytes : List ℕ)
    (operators operators' : List (Option S)) (held held' : Known) (s : Status) : Type 0 where
  pub reading : Reading
  pub read : reads form bytes ≡ Ok reading
  pub within : length (show_wanted bytes) ≤ INPUT_BYTES
  pub served : Serves most told reading.show count operators operators' held held' s

-- It ended as another job, before an operator's line was taken: the show is refused, or there was a fault.
pub record ServesNone {S : Type 0} (count : ℕ) (form : Form) (bytes : List ℕ) (left : Known) (operators operators' : List (Option S))
    (held held' : Known) (s : Status) : Type 0 where
  pub isnt_ok : s ≢ status.Ok
  pub isnt_live : s ≢ status.Live
  pub ended : HasEnded s (Crew count form) bytes left held held'
  pub untouched : operators' ≡ operators

abbrev pub HasCrewEnded : {S : Type 0} → (most : Option ℕ) → ToldBySource S → ℕ → Form → List ℕ → Known
    → (operators operators' : List (Option S)) → (held held' : Known) → Status → Type 0
HasCrewEnded most told count form bytes left operators operators' held held' s =
    ServesNone count form bytes left operators operators' held held' s
    ⊎ ServesShow most told count form bytes operators operators' held held' s

-- A prefix of the text of a crew was written: of each operator in use first lines up to `quit` or the end, numbered from 1, and of
-- no other any. The text of all of them but the last was written whole. Attempts failed only at edits that may take memory.
pub record WritesFirstLines {S : Type 0} (told : ToldBySource S) (show : Show) (count : ℕ) (operators : List (Option S)) (held held' : Known)
    : Type 0 where
  pub entries : List CrewEntry
  pub each : (place : ℕ) (start : S) (bytes : List ℕ) → place < count → slice_get operators place ≡ Some (Some start)
      → told.left start ≡ Some bytes
      → (n : ℕ) × (of_operator (place + 1) entries ≡ numbered_from (place + 1) 1 (take n (lines_up_to_quit bytes)))
  pub none : of_operator 0 entries ≡ []
  pub no_more : (operator : ℕ) → count < operator → of_operator operator entries ≡ []
  pub failures : List (Option ℕ)
  pub allows : CrewAllows (opened show) entries failures
  pub text : AppendsFront held held' (crew_text (opened show) entries failures)
  pub earlier : AppendsAtLeast held held' (crew_text (opened show) (all_but_last entries) failures)

-- the same over the show that was read, or a prefix of the line of one that is refused
abbrev pub WritesCrewFront : {S : Type 0} → ToldBySource S → ℕ → List (Option S) → (held held' : Known) → Result Reading TextFault → Type 0
WritesCrewFront told count operators held held' (Ok reading) = WritesFirstLines told reading.show count operators held held'
WritesCrewFront told count operators held held' (Err fault) = AppendsFront held held' (fault_text fault)

-- each place has a source, and those of the operators that aren't in use are as they were
pub record KeepsPlaces {S : Type 0} (count : ℕ) (operators operators' : List (Option S)) : Type 0 where
  pub same_places : length operators' ≡ length operators
  pub full : EachAt (λ place source. IsSome source) operators'
  pub others : drop count operators' ≡ drop count operators

-- Words that name no crew are answered with Usage, unless memory ran out, and nothing is read or written.
abbrev pub KeepsOperators : {I O S : Type 0} → Option Job → Status → (input input' : I) → (output output' : O)
    → (operators operators' : List (Option S)) → Type 0
KeepsOperators (Some (Crew count form)) s input input' output output' operators operators' =
    (s ≢ status.Usage) × (s ≢ status.Live) × KeepsPlaces count operators operators'
KeepsOperators other s input input' output output' operators operators' =
    ((s ≡ status.Usage) ⊎ (s ≡ status.Memory)) × ((input' ≡ input) × ((output' ≡ output) × (operators' ≡ operators)))

-- the count of failed reads of one of the operators in use rose
pub record OperatorFailed {S : Type 0} (told : ToldBySource S) (count : ℕ) (operators operators' : List (Option S)) : Type 0 where
  pub place : ℕ
  pub within : place < count
  pub start : S
  pub new : S
  pub before : slice_get operators place ≡ Some (Some start)
  pub after : slice_get operators' place ≡ Some (Some new)
  pub rose : Rose (told.faults start) (told.faults new)

-- no read of an operator in use failed
abbrev pub NoOperatorFailed : {S : Type 0} → ToldBySource S → ℕ → (operators operators' : List (Option S)) → Type 0
NoOperatorFailed {S} told count operators operators' =
    (place : ℕ) (start new : S) → place < count → slice_get operators place ≡ Some (Some start)
    → slice_get operators' place ≡ Some (Some new) → told.faults new ≡ told.faults start

-- ReadFault comes only where the count of failed reads of the input rose, and then no operator's source was read; or that of an operator in use
-- did, and none of the input. WriteFault comes only where the output's count of failed writes rose. With it, with InputTooLong and with
-- Memory no read of the input failed. With Ok no read of an operator in use failed, and of a refused show no operator's source was read.
abbrev pub HasCrewCause : {S : Type 0} → ToldBySource S → Status → (reads reads' writes writes' : ℕ) → ℕ
    → (operators operators' : List (Option S))
    → Type 0
HasCrewCause told status.ReadFault reads reads' writes writes' count operators operators' =
    (Rose reads reads' × (operators' ≡ operators)) ⊎ ((reads' ≡ reads) × OperatorFailed told count operators operators')
HasCrewCause told status.WriteFault reads reads' writes writes' count operators operators' = Rose writes writes' × (reads' ≡ reads)
HasCrewCause told status.InputTooLong reads reads' writes writes' count operators operators' = reads' ≡ reads
HasCrewCause told status.Memory reads reads' writes writes' count operators operators' = reads' ≡ reads
HasCrewCause told status.Ok reads reads' writes writes' count operators operators' = NoOperatorFailed told count operators operators'
HasCrewCause told status.ShowRefused reads reads' writes writes' count operators operators' = operators' ≡ operators
HasCrewCause told other reads reads' writes writes' count operators operators' = Unit {0}

-- what the status tells: the fault of the output, else that of the lowest operator that has one
abbrev pub TellsOperators : List (Option OperatorFault) → Status → Type 0
TellsOperators told status.Ok = NoneTold told
TellsOperators told status.ReadFault = IsLowest told ends.ReadFault
TellsOperators told status.InputTooLong = IsLowest told ends.InputTooLong
TellsOperators told other = ⊥

abbrev pub TellsCrew : Option SinkFault → List (Option OperatorFault) → Status → Type 0
TellsCrew None told s = TellsOperators told s
TellsCrew (Some fault) told s = s ≡ status_of_sink fault

-- The heap refused some, or the queue's did, or the output itself was out of memory.
abbrev pub CrewRunsShort : {K : Type 0} → ToldBySink K → (refusals refusals' queues queues' : ℕ) → (output output' : K) → Type 0
CrewRunsShort told refusals refusals' queues queues' output output' =
    (Rose refusals refusals' ⊎ Rose queues queues') ⊎ Rose (told.wants output) (told.wants output')

-- Memory is told only there.
abbrev pub WantsCrew : {K : Type 0} → ToldBySink K → (refusals refusals' queues queues' : ℕ) → (output output' : K) → Status → Type 0
WantsCrew told refusals refusals' queues queues' output output' s =
    s ≡ status.Memory → CrewRunsShort told refusals refusals' queues queues' output output'

-- Out of memory: before a line of any operator was taken, or the output itself was.
abbrev pub TakesNoneOrWants : {K S : Type 0} → ToldBySink K → (output output' : K) → (operators operators' : List (Option S)) → Status → Type 0
TakesNoneOrWants told output output' operators operators' s =
    s ≡ status.Memory → (operators' ≡ operators) ⊎ Rose (told.wants output) (told.wants output')

-- After a fault of the input nothing was written; and where an operator's is told, the output had none, and all that was written is
-- handed on.
abbrev pub HandsOn : {K : Type 0} → ToldBySink K → (output output' : K) → Status → Type 0
HandsOn told output output' s =
    (s ≡ status.ReadFault) ⊎ (s ≡ status.InputTooLong)
    → (output' ≡ output) ⊎ ((told.faults output' ≡ told.faults output)
    × ((told.wants output' ≡ told.wants output) × (told.back output' ≡ [])))

-- What serving the operators over a show comes to, from an output to an output and from sources to sources, by two heaps whose counts of
-- refusals went from one number to another.
pub record ServesOver {S K : Type 0} (told : ToldBySource S) (told_out : ToldBySink K) (refusals refusals' queues queues' : ℕ) (show : Show)
    (count : ℕ) (output output' : K) (operators operators' : List (Option S)) (s : Status) : Type 0 where
  pub works : EndsScript s
  pub places : KeepsPlaces count operators operators'
  pub served : ByRefusals refusals refusals' (λ most. ServesOrWants most told show count operators operators' (told_out.holds output)
      (told_out.holds output') s)
  pub prefix : WritesFirstLines told show count operators (told_out.holds output) (told_out.holds output')
  pub read : s ≡ status.ReadFault → OperatorFailed told count operators operators'
  pub none_failed : s ≡ status.Ok → NoOperatorFailed told count operators operators'
  pub write : s ≡ status.WriteFault → Rose (told_out.faults output) (told_out.faults output')
  pub finished : (reads : ℕ) → Finishes reads reads told_out output output' s
  pub memory : HasWanted told_out output output' s
  pub unread : TakesNoneOrWants told_out output output' operators operators' s
  pub handed_on : HandsOn told_out output output' s
  pub wanted : WantsCrew told_out refusals refusals' queues queues' output output' s
  pub later : refusals ≤ refusals'
  pub queues_later : queues ≤ queues'
