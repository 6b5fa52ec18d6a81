-- What a session over the lines of a script comes to. `most` is the number of lines that failed at most, where one is known.
use Rattle.std.specs.Prelude.{◌≡◌, ◌<◌, ℕ, ◌-◌, Option, IfSome, Result, Ok, Err, List, ◌++◌}
use Rattle.std.specs.Io.KnownBytes.{Appends}
use Rattle.lx_io.specs.Puts.{AppendsFront}
use Rattle.lx_spec.specs.Text.{lines_of}
use Rattle.lx_spec.specs.CutInput.{first_lines, CutOff}
use Rattle.lx_spec.specs.Session.{Answering, whole_session, session_after, Allows, lines_wanted}
use Rattle.lx_session.specs.Known.{Known, AppendsAtLeast}
use Rattle.lx_session.specs.declared.fault.SessionFault.{SessionFault}
use Rattle.lx_session.specs.declared.fault.SessionFault.TheVariants.{ReadFault, WriteFault, InputTooLong, Memory}
use Rattle.lx_session.specs.declared.tally.Tally.{Tally}
use Rattle.lx_session.specs.LineReply.{counts_in}
use Rattle.lx_session.specs.Spared.{failed_count, IsAtMost}

-- The whole script was answered from a state on, and what answers stands for the state after it. Attempts failed only where they may, and of
-- no more lines than so many.
pub record AnsweredWhole (by : Answering (List ℕ)) (most : Option ℕ) (Stands : by.State → Type 0) (state : by.State)
    (script : List (List ℕ)) (held held' : Known) (tally : Tally) : Type 0 where
  pub failures : List (Option ℕ)
  pub allows : Allows by state script failures
  pub few : IsAtMost most (failed_count failures)
  pub text : Appends held held' (whole_session by state script failures).text
  pub counts : counts_in tally ≡ (whole_session by state script failures).counts
  pub stands : Stands (whole_session by state script failures).state

-- This many lines were handed out and done, and a prefix of the text that answers them was written. The replies to all of them but the
-- last were written whole: no line is done behind one whose reply isn't.
pub record AnsweredPrefix (by : Answering (List ℕ)) (most : Option ℕ) (Stands : by.State → Type 0) (state : by.State)
    (bytes : List ℕ) (unread held held' : Known) : Type 0 where
  pub failures : List (Option ℕ)
  pub allows : Allows by state (lines_of bytes) failures
  pub few : IsAtMost most (failed_count failures)
  pub lines : ℕ
  pub handed : IfSome unread (λ rest. bytes ≡ first_lines lines bytes ++ rest)
  pub text : AppendsFront held held' (session_after by state (lines_of bytes) failures lines).text
  pub earlier : AppendsAtLeast held held' (session_after by state (lines_of bytes) failures (lines - 1)).text
  pub stands : Stands (session_after by state (lines_of bytes) failures lines).state

-- The lines that were taken whole, within the limit of the input, were done and wholly answered, and the script wants more of them. `left`
-- is what the source has left.
pub record AnsweredTaken (by : Answering (List ℕ)) (most : Option ℕ) (Stands : by.State → Type 0) (state : by.State)
    (before : ℕ) (bytes : List ℕ) (left held held' : Known) : Type 0 where
  pub failures : List (Option ℕ)
  pub allows : Allows by state (lines_of bytes) failures
  pub few : IsAtMost most (failed_count failures)
  pub cut : CutOff before bytes left
  pub short : cut.lines < lines_wanted (lines_of bytes)
  pub text : Appends held held' (session_after by state (lines_of bytes) failures cut.lines).text
  pub stands : Stands (session_after by state (lines_of bytes) failures cut.lines).state

-- how a session ended by a fault: the sink's, or the script couldn't be read on
abbrev pub AnsweredFault : (by : Answering (List ℕ)) → Option ℕ → (by.State → Type 0) → by.State → ℕ → List ℕ
    → (unread left held held' : Known) → SessionFault → Type 0
AnsweredFault by most Stands state before bytes unread left held held' ReadFault =
    AnsweredTaken by most Stands state before bytes left held held'
AnsweredFault by most Stands state before bytes unread left held held' InputTooLong =
    AnsweredTaken by most Stands state before bytes left held held'
AnsweredFault by most Stands state before bytes unread left held held' WriteFault =
    AnsweredPrefix by most Stands state bytes unread held held'
AnsweredFault by most Stands state before bytes unread left held held' Memory =
    AnsweredPrefix by most Stands state bytes unread held held'

-- Of a script of these bytes, before which this many bytes of the input were taken. `unread` are the bytes that weren't handed out, and
-- `left` those that the source has left.
abbrev pub ScriptAnswered : (by : Answering (List ℕ)) → Option ℕ → (by.State → Type 0) → by.State → ℕ → List ℕ
    → (unread left held held' : Known) → Result Tally SessionFault → Type 0
ScriptAnswered by most Stands state before bytes unread left held held' (Ok tally) =
    AnsweredWhole by most Stands state (lines_of bytes) held held' tally
ScriptAnswered by most Stands state before bytes unread left held held' (Err fault) =
    AnsweredFault by most Stands state before bytes unread left held held' fault
