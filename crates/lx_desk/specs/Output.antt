-- What the program wrote for a job.
use Rattle.std.specs.Prelude.{◌≡◌, ◌<◌, ℕ, ◌-◌, Option, None, List}
use Rattle.std.specs.Io.KnownBytes.{Appends}
use Rattle.lx_io.specs.Puts.{AppendsFront}
use Rattle.lx_spec.specs.declared.Job.{Job}
use Rattle.lx_spec.specs.declared.Job.TheVariants.{Make, Script}
use Rattle.lx_spec.specs.Text.{lines_of}
use Rattle.lx_spec.specs.Reading.{lines_read}
use Rattle.lx_spec.specs.CutInput.{CutOff}
use Rattle.lx_spec.specs.Session.{Answering, whole_session, session_after, Allows, lines_wanted}
use Rattle.lx_session.specs.Spared.{failed_count, IsAtMost}
use Rattle.lx_spec.specs.Job.{output_of, replies_of, lines_wanted_of, JobAllows}

-- What is known of the attempts of a job's script that failed: they did so only where they may, and of no more lines than `most`, where such
-- a number is known.
pub record JobFailures (most : Option ℕ) (job : Job) (bytes : List ℕ) (failures : List (Option ℕ)) : Type 0 where
  pub allows : JobAllows job bytes failures
  pub few : IsAtMost most (failed_count failures)

-- the same of a script that is answered from a state on
pub record ScriptFailures (most : Option ℕ) (by : Answering (List ℕ)) (state : by.State) (script : List (List ℕ)) (failures : List (Option ℕ))
    : Type 0 where
  pub allows : Allows by state script failures
  pub few : IsAtMost most (failed_count failures)

-- The whole text was written: what the definitions give for these bytes, where these attempts failed.
pub record WritesAll (most : Option ℕ) (job : Job) (bytes : List ℕ) (held held' : Option (List ℕ)) : Type 0 where
  pub failures : List (Option ℕ)
  pub allows : JobFailures most job bytes failures
  pub text : Appends held held' (output_of job bytes failures)

-- A prefix of it was written.
pub record WritesFront (most : Option ℕ) (job : Job) (bytes : List ℕ) (held held' : Option (List ℕ)) : Type 0 where
  pub failures : List (Option ℕ)
  pub allows : JobFailures most job bytes failures
  pub text : AppendsFront held held' (output_of job bytes failures)

-- the same, where no such number is known
abbrev pub WritesPrefix : Job → List ℕ → (held held' : Option (List ℕ)) → Type 0
WritesPrefix job bytes held held' = WritesFront None job bytes held held'

-- The input was cut off within the lines that are wanted: the replies to the script lines that were taken whole, within its limit, were
-- written.
pub record RepliesToTaken (most : Option ℕ) (job : Job) (bytes : List ℕ) (left held held' : Option (List ℕ)) : Type 0 where
  pub failures : List (Option ℕ)
  pub allows : JobFailures most job bytes failures
  pub cut : CutOff 0 bytes left
  pub short : cut.lines < lines_wanted_of job bytes
  pub text : Appends held held' (replies_of job bytes failures (cut.lines - lines_read (lines_of bytes)))

-- The input was cut off within the lines of the show, and nothing was written.
pub record NothingOfCut (bytes : List ℕ) (left held held' : Option (List ℕ)) : Type 0 where
  pub kept : held' ≡ held
  pub cut : CutOff 0 bytes left
  pub short : cut.lines < lines_read (lines_of bytes)

-- By the jobs that answer a script they are, and by every other job nothing is. The input of `make` is its own.
abbrev pub WritesTaken : (most : Option ℕ) → Job → List ℕ → Option (List ℕ) → Option (List ℕ) → Option (List ℕ) → Type 0
WritesTaken most (Script kind form) bytes left held held' = RepliesToTaken most (Script kind form) bytes left held held'
WritesTaken most (Make n) bytes left held held' = held' ≡ held
WritesTaken most other bytes left held held' = NothingOfCut bytes left held held'

-- A script was answered from a state on, wholly or by a prefix of the replies.
pub record AnswersScript (most : Option ℕ) (by : Answering (List ℕ)) (state : by.State) (script : List (List ℕ))
    (held held' : Option (List ℕ)) : Type 0 where
  pub failures : List (Option ℕ)
  pub allows : ScriptFailures most by state script failures
  pub text : Appends held held' (whole_session by state script failures).text

pub record AnswersInFront (most : Option ℕ) (by : Answering (List ℕ)) (state : by.State) (script : List (List ℕ))
    (held held' : Option (List ℕ)) : Type 0 where
  pub failures : List (Option ℕ)
  pub allows : ScriptFailures most by state script failures
  pub text : AppendsFront held held' (whole_session by state script failures).text

-- The lines of a script that were taken whole were answered, and wholly, and the script wants more of them.
pub record AnswersTaken (most : Option ℕ) (by : Answering (List ℕ)) (state : by.State) (before : ℕ) (bytes : List ℕ)
    (left held held' : Option (List ℕ)) : Type 0 where
  pub failures : List (Option ℕ)
  pub allows : ScriptFailures most by state (lines_of bytes) failures
  pub cut : CutOff before bytes left
  pub short : cut.lines < lines_wanted (lines_of bytes)
  pub text : Appends held held' (session_after by state (lines_of bytes) failures cut.lines).text
