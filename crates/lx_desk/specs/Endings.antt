-- What holds where a job ended with a status.
use Rattle.std.specs.Prelude.{◌≡◌, ◌⊎◌, ℕ, ◌+◌, ◌<◌, ◌≤◌, Bool, true, false, Option, Some, None, IfSome, IsOk, IsErr, List, length}
use Rattle.std.specs.Prelude.{if◌then◌else◌}
use Rattle.lx_base.specs.declared.TheConstants.{INPUT_BYTES}
use Rattle.lx_io.specs.Causes.{Rose}
use Rattle.lx_spec.specs.declared.Job.{Job}
use Rattle.lx_spec.specs.declared.Job.TheVariants.{Script, Crew}
use Rattle.lx_spec.specs.declared.ScriptKind.{ScriptKind}
use Rattle.lx_spec.specs.declared.ScriptKind.TheVariants.{Live}
use Rattle.lx_spec.specs.Text.{lines_of}
use Rattle.lx_spec.specs.Session.{Answering, bytes_wanted}
use Rattle.lx_spec.specs.Job.{show_of, wanted_of}
use Rattle.lx_desk.specs.Output.{WritesAll, WritesFront, WritesTaken, AnswersScript, AnswersInFront, AnswersTaken}
use Rattle.lx_desk.specs.declared.desk.Status.{Status}
use Rattle.lx_desk.specs.declared.desk.Status.TheVariants as status

-- threads play the script beside the caller's
abbrev pub is_live : ScriptKind → Bool
is_live (Live universes) = true
is_live other = false

-- the status of words by which nothing is read: of those that name no job, and of those of the jobs that run beside threads
abbrev pub at_once : Option Job → Option Status
at_once None = Some status.Usage
at_once (Some (Script kind form)) = if is_live kind then Some status.Live else None
at_once (Some (Crew operators form)) = Some status.Live
at_once (Some other) = None

-- A job that has such a status is answered with it, and nothing is read or written; no other job is.
pub record AnswersJob {I O : Type 0} (job : Job) (s : Status) (input input' : I) (output output' : O) : Type 0 where
  pub at : IfSome (at_once (Some job)) (λ answer. (s ≡ answer) × ((input' ≡ input) × (output' ≡ output)))
  pub only : (s ≡ status.Usage) ⊎ (s ≡ status.Live) → at_once (Some job) ≡ Some s

-- Words that have such a status are answered with it, unless memory ran out, and then nothing is read or written; no other
-- words are.
pub record AnswersWords {I O : Type 0} (job : Option Job) (s : Status) (input input' : I) (output output' : O) : Type 0 where
  pub at : IfSome (at_once job) (λ answer. ((s ≡ answer) ⊎ (s ≡ status.Memory)) × ((input' ≡ input) × (output' ≡ output)))
  pub only : (s ≡ status.Usage) ⊎ (s ≡ status.Live) → at_once job ≡ Some s

-- the statuses of a job that is done here, and of a script
abbrev pub EndsJob : Status → Type 0
EndsJob status.Usage = ⊥
EndsJob status.Live = ⊥
EndsJob other = Unit {0}

abbrev pub EndsScript : Status → Type 0
EndsScript status.ShowRefused = ⊥
EndsScript status.Usage = ⊥
EndsScript status.Live = ⊥
EndsScript other = Unit {0}

-- The whole text was written, and the input is within its limit.
pub record WritesWhole (most : Option ℕ) (job : Job) (bytes : List ℕ) (held held' : Option (List ℕ)) : Type 0 where
  pub text : WritesAll most job bytes held held'
  pub within : length (wanted_of job bytes) ≤ INPUT_BYTES

-- Ok and ShowRefused: the whole text was written, of a show that was read or of one that is refused. Where the input couldn't be read on,
-- what was written is nothing, or the replies to the script lines that were taken whole; the input is told too long only where it is.
-- After every other status of a job it is a prefix of the whole text. Attempts of no more lines than `most` failed, where such a
-- number is known.
abbrev pub HasEndedBy : (most : Option ℕ) → Status → Job → List ℕ → Option (List ℕ) → Option (List ℕ) → Option (List ℕ) → Type 0
HasEndedBy most status.Ok job bytes left held held' = WritesWhole most job bytes held held' × IsOk (show_of job bytes)
HasEndedBy most status.ShowRefused job bytes left held held' = WritesWhole most job bytes held held' × IsErr (show_of job bytes)
HasEndedBy most status.ReadFault job bytes left held held' = WritesTaken most job bytes left held held'
HasEndedBy most status.InputTooLong job bytes left held held' =
    WritesTaken most job bytes left held held' × (INPUT_BYTES < length (wanted_of job bytes))
HasEndedBy most status.WriteFault job bytes left held held' = WritesFront most job bytes held held'
HasEndedBy most status.Memory job bytes left held held' = WritesFront most job bytes held held'
HasEndedBy most status.Usage job bytes left held held' = ⊥
HasEndedBy most status.Live job bytes left held held' = at_once (Some job) ≡ Some status.Live

-- the same, where no such number is known
abbrev pub HasEnded : Status → Job → List ℕ → Option (List ℕ) → Option (List ℕ) → Option (List ℕ) → Type 0
HasEnded s job bytes left held held' = HasEndedBy None s job bytes left held held'

-- A fault of the outside comes only where its count rose. One of the input comes only where no write of the output failed, and one of the
-- output only where no read did.
abbrev pub HasCauseOf : Status → (reads reads' writes writes' : ℕ) → Type 0
HasCauseOf status.ReadFault reads reads' writes writes' = Rose reads reads' × (writes' ≡ writes)
HasCauseOf status.WriteFault reads reads' writes writes' = Rose writes writes' × (reads' ≡ reads)
HasCauseOf status.InputTooLong reads reads' writes writes' = (reads' ≡ reads) × (writes' ≡ writes)
HasCauseOf status.Memory reads reads' writes writes' = reads' ≡ reads
HasCauseOf other reads reads' writes writes' = Unit {0}

-- The same of a script that is answered from a state on, before which this many bytes of the input were taken.
abbrev pub HasPlayed : (most : Option ℕ) → Status → (by : Answering (List ℕ)) → by.State → ℕ → List ℕ → Option (List ℕ) → Option (List ℕ)
    → Option (List ℕ) → Type 0
HasPlayed most status.Ok by state before bytes left held held' =
    AnswersScript most by state (lines_of bytes) held held' × (before + length (bytes_wanted bytes) ≤ INPUT_BYTES)
HasPlayed most status.ReadFault by state before bytes left held held' = AnswersTaken most by state before bytes left held held'
HasPlayed most status.InputTooLong by state before bytes left held held' =
    AnswersTaken most by state before bytes left held held' × (INPUT_BYTES < before + length (bytes_wanted bytes))
HasPlayed most status.WriteFault by state before bytes left held held' = AnswersInFront most by state (lines_of bytes) held held'
HasPlayed most status.Memory by state before bytes left held held' = AnswersInFront most by state (lines_of bytes) held held'
HasPlayed most other by state before bytes left held held' = ⊥
