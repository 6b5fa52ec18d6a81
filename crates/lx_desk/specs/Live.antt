-- What a live run of the program comes to, and what its outlets have.
use Rattle.std.specs.Prelude.{◌≡◌, ◌⊎◌, ◌≢◌, ℕ, ◌+◌, ◌-◌, ◌<◌, ◌≤◌, Bool, true, false, Option, Some, None, IfSome, Result, Ok, Err, IsOk, IsErr}
use Rattle.std.specs.Prelude.{List, [], ◌++◌, length, take, drop, slice_get}
use Rattle.std.specs.Io.KnownBytes.{Appends}
use Rattle.lx_base.specs.declared.TheConstants.{INPUT_BYTES}
use Rattle.lx_io.specs.declared.sink.SinkFault.{SinkFault}
use Rattle.lx_io.specs.declared.sink.SinkFault.TheVariants.{Failed, Memory}
use Rattle.lx_io.specs.Causes.{Rose}
use Rattle.lx_io.specs.Puts.{AppendsFront}
use Rattle.lx_io.specs.Told.{ToldBySink, ToldBySource}
use Rattle.lx_lex.specs.declared.lines.Lines.{Lines}
use Rattle.lx_lex.specs.Unread.{bytes_taken, source_faults, source_left, unread}
use Rattle.lx_spec.specs.declared.Command.{Command}
use Rattle.lx_spec.specs.declared.Form.{Form}
use Rattle.lx_spec.specs.declared.Job.{Job}
use Rattle.lx_spec.specs.declared.Job.TheVariants.{Script}
use Rattle.lx_spec.specs.declared.ScriptKind.TheVariants.{Live}
use Rattle.lx_spec.specs.Text.{lines_of}
use Rattle.lx_spec.specs.Show.{Show}
use Rattle.lx_spec.specs.Desk.{opened}
use Rattle.lx_spec.specs.CutInput.{CutOff}
use Rattle.lx_spec.specs.Session.{Session, whole_session, session_after, Allows, lines_wanted, bytes_wanted}
use Rattle.lx_spec.specs.DeskSession.{DeskState, begun, desk_answering}
use Rattle.lx_spec.specs.Reading.{Reading, reads, script_of, lines_read}
use Rattle.lx_spec.specs.ScriptOutput.{input_wanted}
use Rattle.lx_workers.specs.Works.{HasAll}
use Rattle.lx_workers.specs.Engines.{engine_answering, most_of}
use Rattle.lx_workers.specs.LiveOutcome.{AreDelivered}
use Rattle.lx_session.specs.Known.{AppendsAtLeast, Known}
use Rattle.lx_session.specs.Spared.{failed_count, HasStood, IsAtMost, RoseAtMost}
use Rattle.lx_session.specs.declared.fault.SessionFault.{SessionFault}
use Rattle.lx_session.specs.declared.tally.Tally.{Tally}
use Rattle.lx_desk.specs.declared.desk.Status.{Status}
use Rattle.lx_desk.specs.declared.desk.Status.TheVariants as status
use Rattle.lx_desk.specs.Faults.{status_for}
use Rattle.lx_desk.specs.Endings.{EndsScript, HasEnded}
use Rattle.lx_desk.specs.Finished.{Finishes}
use Rattle.lx_desk.specs.Output.{NothingOfCut}

-- The session of a script that is played live over a show, and of its first n lines. Where attempts may fail doesn't matter to it.
abbrev pub live_session : Show → List (List ℕ) → List (Option ℕ) → Session DeskState
live_session show script failures = whole_session (desk_answering false) (begun (opened show)) script failures

abbrev pub live_after : Show → List (List ℕ) → List (Option ℕ) → ℕ → Session DeskState
live_after show script failures lines = session_after (desk_answering false) (begun (opened show)) script failures lines

-- What is known of a live run's memory: how many of its lines failed at most, if that is, and whether that of the versions which it publishes
-- was ample.
pub record LiveMemory : Type 0 where
  pub edits : Option ℕ
  pub versions : Bool

-- nothing is known
abbrev pub any_memory : LiveMemory
any_memory = record { edits = None; versions = false }

-- What holds, whatever of it is known: no more lines failed than the heap refused calls, and memory for versions was ample where the writer's
-- heap refused nothing.
abbrev pub ByLiveMemory : (refusals refusals' writers writers' : ℕ) → (LiveMemory → Type 0) → Type 0
ByLiveMemory refusals refusals' writers writers' P =
    (known : LiveMemory) → IfSome known.edits (RoseAtMost refusals refusals') → (known.versions ≡ true → HasStood writers writers') → P known

-- As long as fewer than 2^62 commands were accepted attempts failed only at edits that may take memory and that the desk accepts, and of no
-- more lines than `most`, where such a number is known.
pub record LiveAllows (most : Option ℕ) (show : Show) (script : List (List ℕ)) (failures : List (Option ℕ)) (accepted : List Command)
    : Type 0 where
  pub allows : Allows (engine_answering accepted) (begun (opened show)) script failures
  pub few : IsAtMost (most_of most accepted) (failed_count failures)

-- an outlet has the lines of versions of rising prefixes of these commands, the last of which is all of them
pub record HasVersions {K : Type 0} (told : ToldBySink K) (show : Show) (outlets' : List (Option K)) (place : ℕ) (start : K)
    (list : List Command) : Type 0 where
  pub new : K
  pub place_is : slice_get outlets' place ≡ Some (Some new)
  pub all : HasAll show (place + 1) (told.holds start) (told.holds new) list

abbrev pub HaveVersions : {K : Type 0} → ToldBySink K → Show → ℕ → List (Option K) → List (Option K) → List Command → Type 0
HaveVersions {K} told show universes outlets outlets' list =
    (place : ℕ) (start : K) → place < universes → slice_get outlets place ≡ Some (Some start)
    → HasVersions told show outlets' place start list

-- A script was answered to its end, and each outlet's last line is that of the version after all accepted commands. Here and below attempts
-- failed by `LiveAllows`.
pub record PlaysScript {K : Type 0} (most : Option ℕ) (told : ToldBySink K) (show : Show) (universes : ℕ) (script : List (List ℕ))
    (held held' : Known) (outlets outlets' : List (Option K)) : Type 0 where
  pub failures : List (Option ℕ)
  pub allows : LiveAllows most show script failures (live_session show script failures).state.accepted
  pub text : Appends held held' (live_session show script failures).text
  pub versions : HaveVersions told show universes outlets outlets' (live_session show script failures).state.accepted

-- Each outlet in use got what it was to get of these published commands: the lines of versions of rising prefixes of them, the last of which
-- is all of them. With a fault of its own it got such lines and a part of one more. The other outlets are as they were.
pub record HaveGot {K : Type 0} (told : ToldBySink K) (show : Show) (universes : ℕ)
    (outlets outlets' : List (Option K)) (published : List Command) : Type 0 where
  pub results : List (Option SinkFault)
  pub delivered : AreDelivered told show (take universes outlets) (take universes outlets') results published
  pub rest : drop universes outlets' ≡ drop universes outlets

-- All but some last ones of these commands were published, and the outlets got what they were to get of these; `all` says that none was left.
pub record AreServed {K : Type 0} (all : Bool) (told : ToldBySink K) (show : Show) (universes : ℕ)
    (outlets outlets' : List (Option K)) (commands : List Command) : Type 0 where
  pub published : List Command
  pub held_back : List Command
  pub commands_are : commands ≡ published ++ held_back
  pub all_published : all ≡ true → held_back ≡ []
  pub got : HaveGot told show universes outlets outlets' published

-- Up to this many lines of a script were answered, by a prefix of the replies, in which those to all of them but the last are whole; and the
-- outlets got what was published of the commands that these lines came to.
pub record PlaysInFront {K : Type 0} (known : LiveMemory) (told : ToldBySink K) (show : Show) (universes : ℕ)
    (script : List (List ℕ)) (held held' : Known) (outlets outlets' : List (Option K)) : Type 0 where
  pub failures : List (Option ℕ)
  pub lines : ℕ
  pub allows : LiveAllows known.edits show script failures (live_after show script failures lines).state.accepted
  pub text : AppendsFront held held' (live_after show script failures lines).text
  pub earlier : AppendsAtLeast held held' (live_after show script failures (lines - 1)).text
  pub served : AreServed known.versions told show universes outlets outlets' (live_after show script failures lines).state.accepted

-- The lines that were taken whole were answered, and the outlets got what was published of the commands that these lines came to.
pub record PlaysTaken {K : Type 0} (known : LiveMemory) (told : ToldBySink K) (show : Show) (universes before : ℕ)
    (bytes : List ℕ) (left held held' : Known) (outlets outlets' : List (Option K)) : Type 0 where
  pub failures : List (Option ℕ)
  pub cut : CutOff before bytes left
  pub short : cut.lines < lines_wanted (lines_of bytes)
  pub allows : LiveAllows known.edits show (lines_of bytes) failures (live_after show (lines_of bytes) failures cut.lines).state.accepted
  pub text : Appends held held' (live_after show (lines_of bytes) failures cut.lines).text
  pub served : AreServed known.versions told show universes outlets outlets' (live_after show (lines_of bytes) failures cut.lines).state.accepted

-- how a script over a show ended that was played live, before which this many bytes of the input were taken
abbrev pub HasPlayedLive : {K : Type 0} → (known : LiveMemory) → Status → ToldBySink K → Show → (universes before : ℕ) → List ℕ
    → (left held held' : Known) → (outlets outlets' : List (Option K)) → Type 0
HasPlayedLive known status.Ok told show universes before bytes left held held' outlets outlets' =
    PlaysScript known.edits told show universes (lines_of bytes) held held' outlets outlets'
    × (before + length (bytes_wanted bytes) ≤ INPUT_BYTES)
HasPlayedLive known status.ReadFault told show universes before bytes left held held' outlets outlets' =
    PlaysTaken known told show universes before bytes left held held' outlets outlets'
HasPlayedLive known status.InputTooLong told show universes before bytes left held held' outlets outlets' =
    PlaysTaken known told show universes before bytes left held held' outlets outlets'
    × (INPUT_BYTES < before + length (bytes_wanted bytes))
HasPlayedLive known status.WriteFault told show universes before bytes left held held' outlets outlets' =
    PlaysInFront known told show universes (lines_of bytes) held held' outlets outlets'
HasPlayedLive known status.Memory told show universes before bytes left held held' outlets outlets' =
    ((held' ≡ held) × (outlets' ≡ outlets))
    ⊎ PlaysInFront known told show universes (lines_of bytes) held held' outlets outlets'
HasPlayedLive known other told show universes before bytes left held held' outlets outlets' = ⊥

-- The show was read, the replies to the whole script were written, and each outlet's last line is that of the version after all commands
-- that were accepted.
pub record PlaysWhole {K : Type 0} (most : Option ℕ) (told : ToldBySink K) (universes : ℕ) (form : Form) (bytes : List ℕ)
    (held held' : Known) (outlets outlets' : List (Option K)) : Type 0 where
  pub reading : Reading
  pub read : reads form bytes ≡ Ok reading
  pub failures : List (Option ℕ)
  pub allows : LiveAllows most reading.show (script_of bytes) failures (live_session reading.show (script_of bytes) failures).state.accepted
  pub text : Appends held held' (live_session reading.show (script_of bytes) failures).text
  pub versions : HaveVersions told reading.show universes outlets outlets' (live_session reading.show (script_of bytes) failures).state.accepted
  pub within : length (input_wanted form bytes) ≤ INPUT_BYTES

-- The show was read, up to this many lines of its script were answered, by a prefix of the replies, and the outlets got what was published
-- of the commands that these lines came to.
pub record LivesInFront {K : Type 0} (known : LiveMemory) (told : ToldBySink K) (universes : ℕ) (form : Form)
    (bytes : List ℕ) (held held' : Known) (outlets outlets' : List (Option K)) : Type 0 where
  pub reading : Reading
  pub read : reads form bytes ≡ Ok reading
  pub plays : PlaysInFront known told reading.show universes (script_of bytes) held held' outlets outlets'

-- The show was read, the script lines that were taken whole were answered, and the outlets got what was published of the commands that
-- these lines came to.
pub record LivesTaken {K : Type 0} (known : LiveMemory) (told : ToldBySink K) (universes : ℕ) (form : Form)
    (bytes : List ℕ) (left held held' : Known) (outlets outlets' : List (Option K)) : Type 0 where
  pub reading : Reading
  pub read : reads form bytes ≡ Ok reading
  pub failures : List (Option ℕ)
  pub cut : CutOff 0 bytes left
  pub short : cut.lines < lines_read (lines_of bytes) + lines_wanted (script_of bytes)
  pub allows : LiveAllows known.edits reading.show (script_of bytes) failures
      (live_after reading.show (script_of bytes) failures (cut.lines - lines_read (lines_of bytes))).state.accepted
  pub text : Appends held held'
      (live_after reading.show (script_of bytes) failures (cut.lines - lines_read (lines_of bytes))).text
  pub served : AreServed known.versions told reading.show universes outlets outlets'
      (live_after reading.show (script_of bytes) failures (cut.lines - lines_read (lines_of bytes))).state.accepted

-- no reply to a script was written, and no outlet
abbrev pub NoneLived : {K : Type 0} → Form → List ℕ → (held held' : Known) → (outlets outlets' : List (Option K)) → Type 0
NoneLived form bytes held held' outlets outlets' = (outlets' ≡ outlets) × (IsOk (reads form bytes) → held' ≡ held)

-- the same, and there was no script to play: the show is refused
abbrev pub NoneOfRefused : {K : Type 0} → Form → List ℕ → (outlets outlets' : List (Option K)) → Type 0
NoneOfRefused form bytes outlets outlets' = (outlets' ≡ outlets) × IsErr (reads form bytes)

-- or the input was cut off within the lines of the show
abbrev pub NoneOfCut : {K : Type 0} → List ℕ → (left held held' : Known) → (outlets outlets' : List (Option K)) → Type 0
NoneOfCut bytes left held held' outlets outlets' = (outlets' ≡ outlets) × NothingOfCut bytes left held held'

-- How the live run of a form over this many universes ended: with Ok as above; with ShowRefused as another job, and nothing in any outlet.
-- Else it ended as another job with the status, and the outlets got nothing, or what was published of the commands that the lines which
-- were answered came to.
abbrev pub HasLived : {K : Type 0} → (known : LiveMemory) → Status → ToldBySink K → ℕ → Form → List ℕ
    → (left held held' : Known) → (outlets outlets' : List (Option K)) → Type 0
HasLived known status.Ok told universes form bytes left held held' outlets outlets' =
    PlaysWhole known.edits told universes form bytes held held' outlets outlets'
HasLived known status.ShowRefused told universes form bytes left held held' outlets outlets' =
    HasEnded status.ShowRefused (Script (Live universes) form) bytes left held held' × (outlets' ≡ outlets)
HasLived known status.ReadFault told universes form bytes left held held' outlets outlets' =
    HasEnded status.ReadFault (Script (Live universes) form) bytes left held held' × (NoneOfCut bytes left held held' outlets outlets'
    ⊎ LivesTaken known told universes form bytes left held held' outlets outlets')
HasLived known status.InputTooLong told universes form bytes left held held' outlets outlets' =
    HasEnded status.InputTooLong (Script (Live universes) form) bytes left held held' × (NoneOfCut bytes left held held' outlets outlets'
    ⊎ LivesTaken known told universes form bytes left held held' outlets outlets')
HasLived known status.WriteFault told universes form bytes left held held' outlets outlets' =
    HasEnded status.WriteFault (Script (Live universes) form) bytes left held held' × (NoneOfRefused form bytes outlets outlets'
    ⊎ LivesInFront known told universes form bytes held held' outlets outlets')
HasLived known status.Memory told universes form bytes left held held' outlets outlets' =
    HasEnded status.Memory (Script (Live universes) form) bytes left held held' × (NoneLived form bytes held held' outlets outlets'
    ⊎ LivesInFront known told universes form bytes held held' outlets outlets')
HasLived known other told universes form bytes left held held' outlets outlets' = ⊥

-- the outlets got what they were to get of some published commands over one show
pub record ArePlayed {K : Type 0} (told : ToldBySink K) (universes : ℕ) (outlets outlets' : List (Option K)) : Type 0 where
  pub show : Show
  pub published : List Command
  pub got : HaveGot told show universes outlets outlets' published

-- no write of an outlet failed, it was never out of memory, and all that was written is handed on
pub record OutletFinishes {K : Type 0} (told : ToldBySink K) (outlets' : List (Option K)) (place : ℕ) (start : K) : Type 0 where
  pub new : K
  pub place_is : slice_get outlets' place ≡ Some (Some new)
  pub writes_kept : told.faults new ≡ told.faults start
  pub wants_kept : told.wants new ≡ told.wants start
  pub handed_on : told.back new ≡ []

-- with Ok that holds of each outlet in use
abbrev pub OutletsFinish : {K : Type 0} → ToldBySink K → ℕ → (outlets outlets' : List (Option K)) → Status → Type 0
OutletsFinish {K} told universes outlets outlets' s =
    s ≡ status.Ok → (place : ℕ) (start : K) → place < universes → slice_get outlets place ≡ Some (Some start)
    → OutletFinishes told outlets' place start

-- Words that name no live run are answered with Usage, unless memory ran out, and nothing is read or written; in a live run
-- the outlets are as they were, or were played, and with Ok none of them had a fault.
abbrev pub KeepsOutlets : {I O K : Type 0} → ToldBySink K → Option Job → Status → (input input' : I)
    → (output output' : O) → (outlets outlets' : List (Option K)) → Type 0
KeepsOutlets told (Some (Script (Live universes) form)) s input input' output output' outlets outlets' =
    (s ≢ status.Usage) × ((outlets' ≡ outlets) ⊎ ArePlayed told universes outlets outlets')
    × (s ≢ status.Live) × OutletsFinish told universes outlets outlets' s
KeepsOutlets told other s input input' output output' outlets outlets' =
    ((s ≡ status.Usage) ⊎ (s ≡ status.Memory)) × ((input' ≡ input) × ((output' ≡ output) × (outlets' ≡ outlets)))

-- the count of failed writes of one of the outlets rose
pub record OutletFailed {K : Type 0} (told : ToldBySink K) (outlets outlets' : List (Option K)) : Type 0 where
  pub place : ℕ
  pub start : K
  pub new : K
  pub before : slice_get outlets place ≡ Some (Some start)
  pub after : slice_get outlets' place ≡ Some (Some new)
  pub rose : Rose (told.faults start) (told.faults new)

-- the count of one of the outlets rose of how often it was out of memory
pub record OutletWanted {K : Type 0} (told : ToldBySink K) (outlets outlets' : List (Option K)) : Type 0 where
  pub place : ℕ
  pub start : K
  pub new : K
  pub before : slice_get outlets place ≡ Some (Some start)
  pub after : slice_get outlets' place ≡ Some (Some new)
  pub rose : Rose (told.wants start) (told.wants new)

-- The heap refused some, or the writer's did, or the output or an outlet itself was out of memory.
abbrev pub LiveRunsShort : {O K : Type 0} → ToldBySink O → ToldBySink K → (refusals refusals' writers writers' : ℕ) → (output output' : O)
    → (outlets outlets' : List (Option K)) → Type 0
LiveRunsShort told_out told refusals refusals' writers writers' output output' outlets outlets' =
    (Rose refusals refusals' ⊎ Rose writers writers')
    ⊎ (Rose (told_out.wants output) (told_out.wants output') ⊎ OutletWanted told outlets outlets')

-- Memory is told only there.
abbrev pub WantsLive : {O K : Type 0} → ToldBySink O → ToldBySink K → (refusals refusals' writers writers' : ℕ) → (output output' : O)
    → (outlets outlets' : List (Option K)) → Status → Type 0
WantsLive told_out told refusals refusals' writers writers' output output' outlets outlets' s =
    s ≡ status.Memory → LiveRunsShort told_out told refusals refusals' writers writers' output output' outlets outlets'

-- ReadFault comes only where the count of failed reads rose, and WriteFault only where the output's or an outlet's of failed writes did. A
-- fault of the input comes only where no write of the output failed, and any other only where no read did. Of a refused show no outlet is written.
abbrev pub HasLiveCause : {K : Type 0} → ToldBySink K → Status → (reads reads' writes writes' : ℕ) → (outlets outlets' : List (Option K))
    → Type 0
HasLiveCause told status.ReadFault reads reads' writes writes' outlets outlets' = Rose reads reads' × (writes' ≡ writes)
HasLiveCause told status.WriteFault reads reads' writes writes' outlets outlets' =
    (Rose writes writes' ⊎ OutletFailed told outlets outlets') × (reads' ≡ reads)
HasLiveCause told status.InputTooLong reads reads' writes writes' outlets outlets' = (reads' ≡ reads) × (writes' ≡ writes)
HasLiveCause told status.Memory reads reads' writes writes' outlets outlets' = reads' ≡ reads
HasLiveCause told status.ShowRefused reads reads' writes writes' outlets outlets' = outlets' ≡ outlets
HasLiveCause told other reads reads' writes writes' outlets outlets' = Unit {0}

-- a write failed in an outlet
abbrev pub HasFailedOutlet : List (Option SinkFault) → Type 0
HasFailedOutlet results = (place : ℕ) × (slice_get results place ≡ Some (Some Failed))

-- none did, and an outlet was out of memory, or some commands were never published
pub record LacksMemory (results : List (Option SinkFault)) (unsent : ℕ) : Type 0 where
  pub none_failed : HasFailedOutlet results → ⊥
  pub wanted : ((place : ℕ) × (slice_get results place ≡ Some (Some Memory))) ⊎ (0 < unsent)

-- what the status tells of the outlets' faults and of what is unsent: with Ok there was none, with WriteFault a write failed, and with
-- Memory none did
abbrev pub TellsOutlets : List (Option SinkFault) → ℕ → Status → Type 0
TellsOutlets results unsent status.Ok = (unsent ≡ 0)
    × ((place : ℕ) (fault : Option SinkFault) → slice_get results place ≡ Some fault → fault ≡ None)
TellsOutlets results unsent status.WriteFault = HasFailedOutlet results
TellsOutlets results unsent status.Memory = LacksMemory results unsent
TellsOutlets results unsent other = ⊥

-- the session's fault decides first, and then the outlets
abbrev pub TellsRun : Result Tally SessionFault → List (Option SinkFault) → ℕ → Status → Type 0
TellsRun (Ok tally) results unsent s = TellsOutlets results unsent s
TellsRun (Err fault) results unsent s = s ≡ status_for {A = Tally} (Err fault)

-- A script was answered to its end, and the outlets got what was published of the commands that it came to; and so much is told of the
-- outlets' faults and of how many commands were never published.
pub record PlaysToEnd {K : Type 0} (known : LiveMemory) (Told : List (Option SinkFault) → ℕ → Type 0) (outlet_told : ToldBySink K)
    (show : Show) (universes : ℕ) (script : List (List ℕ)) (held held' : Known) (outlets outlets' : List (Option K))
    : Type 0 where
  pub failures : List (Option ℕ)
  pub allows : LiveAllows known.edits show script failures (live_session show script failures).state.accepted
  pub text : Appends held held' (live_session show script failures).text
  pub served : AreServed known.versions outlet_told show universes outlets outlets' (live_session show script failures).state.accepted
  pub told : Told served.got.results (length served.held_back)

-- no read failed, the output had no fault, and all that was written on it is handed on
pub record NoneRose {O : Type 0} (reads reads' : ℕ) (told : ToldBySink O) (output output' : O) : Type 0 where
  pub reads_kept : reads' ≡ reads
  pub writes_kept : told.faults output' ≡ told.faults output
  pub wants_kept : told.wants output' ≡ told.wants output
  pub handed_on : told.back output' ≡ []

-- The faults of a live run are told in this order. The session's own comes first, which is one of the input or of the output. Then, where
-- the session had none and came to its end, comes a write that failed in an outlet, and then that memory was short. What the end is, is
-- said of an input that tells its bytes; the order itself holds of every input.
abbrev pub DecidesInOrder : {O K : Type 0} → Status → (reads reads' : ℕ) → (told : ToldBySink O) → (output output' : O)
    → (outlets outlets' : List (Option K)) → ((List (Option SinkFault) → ℕ → Type 0) → Type 0) → Type 0
DecidesInOrder status.WriteFault reads reads' told output output' outlets outlets' ToEnd =
    Rose (told.faults output) (told.faults output')
    ⊎ (NoneRose reads reads' told output output' × ToEnd (λ results unsent. HasFailedOutlet results))
DecidesInOrder status.Memory reads reads' told output output' outlets outlets' ToEnd =
    (((output' ≡ output) × (outlets' ≡ outlets)) ⊎ Rose (told.wants output) (told.wants output'))
    ⊎ (NoneRose reads reads' told output output' × ToEnd LacksMemory)
DecidesInOrder other reads reads' told output output' outlets outlets' ToEnd = Unit {0}

-- The same of an input: its show was read, and the script behind it was played to its end, within the limit of the input.
pub record LivesToEnd {K : Type 0} (known : LiveMemory) (Told : List (Option SinkFault) → ℕ → Type 0) (told : ToldBySink K)
    (universes : ℕ) (form : Form) (bytes : List ℕ) (held held' : Known) (outlets outlets' : List (Option K))
    : Type 0 where
  pub reading : Reading
  pub read : reads form bytes ≡ Ok reading
  pub plays : PlaysToEnd known Told told reading.show universes (script_of bytes) held held' outlets outlets'
  pub within : length (input_wanted form bytes) ≤ INPUT_BYTES

-- What playing the script that is left over a show comes to: from lines to lines, from an output to an output and from outlets to outlets, by
-- two heaps whose counts of refusals went from one number to another.
pub record PlaysLive {S O K : Type 0} (told_in : ToldBySource S) (told_out : ToldBySink O) (told : ToldBySink K)
    (refusals refusals' writers writers' : ℕ) (show : Show) (universes : ℕ) (old new : Lines S) (output output' : O)
    (outlets outlets' : List (Option K)) (s : Status) : Type 0 where
  pub works : EndsScript s
  pub played : (outlets' ≡ outlets) ⊎ ArePlayed told universes outlets outlets'
  pub finish : OutletsFinish told universes outlets outlets' s
  pub ended : ByLiveMemory refusals refusals' writers writers' (λ known. IfSome (unread told_in old)
      (λ bytes. HasPlayedLive known s told show universes (bytes_taken old) bytes (source_left told_in new) (told_out.holds output)
      (told_out.holds output') outlets outlets'))
  pub cause : HasLiveCause told s (source_faults told_in old) (source_faults told_in new) (told_out.faults output) (told_out.faults output')
      outlets outlets'
  pub order : ByLiveMemory refusals refusals' writers writers' (λ known.
      DecidesInOrder s (source_faults told_in old) (source_faults told_in new) told_out output output' outlets outlets'
      (λ Told. IfSome (unread told_in old)
      (λ bytes. PlaysToEnd known Told told show universes (lines_of bytes) (told_out.holds output) (told_out.holds output') outlets outlets'
      × (bytes_taken old + length (bytes_wanted bytes) ≤ INPUT_BYTES))))
  pub finished : Finishes (source_faults told_in old) (source_faults told_in new) told_out output output' s
  pub wanted : WantsLive told_out told refusals refusals' writers writers' output output' outlets outlets' s
  pub heap_later : refusals ≤ refusals'
  pub writers_later : writers ≤ writers'
