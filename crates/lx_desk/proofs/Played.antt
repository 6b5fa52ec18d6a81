-- A script that was played, from what its session came to.
use Rattle.lx_desk.proofs.Imports.{◌≡◌, ℕ, Result, Ok, Err, HandsOnReplies, Option, IfSome, List, Lines, bytes_taken}
use Rattle.lx_desk.proofs.Imports.{source_left, unread, lines_of, Answering, SessionFault, Tally, HasSessionCause, KeepsLimit, AnsweredPrefix, AnsweredWhole}
use Rattle.lx_desk.proofs.Imports.{AnsweredTaken, ScriptAnswered, front_of_whole, Status, status_for, AnswersInFront, AnswersScript, AnswersTaken, HasPlayed}
use Rattle.lx_desk.proofs.Imports.{Plays, ToldBySink, ToldBySource, ◌≤◌, Rose, ByRefusals, known_since}
use Rattle.lx_session.specs.OneAnswer.{IsLawful}
use Rattle.lx_session.specs.declared.fault.SessionFault.TheVariants as faults
use Rattle.lx_desk.specs.declared.desk.Status.TheVariants as status
use Rattle.lx_desk.proofs.Inputs.{IfSome_then, all_known, both_known, nothing_answered}
use Rattle.lx_desk.proofs.Finishing.{ends_script, none_accounts, session_accounts}

-- Of what answers a line so, from a state on, in a session of which no more lines failed than so many.
module _ (most : Option ℕ) (by : Answering (List ℕ)) (lawful : IsLawful by) (Stands : by.State → Type 0) (state : by.State)
    (h h' : Option (List ℕ)) where
  -- However it ended, it answered by a prefix.
  front_by : (bytes : List ℕ) (unread : Option (List ℕ)) → AnsweredPrefix by most Stands state bytes unread h h'
      → AnswersInFront most by state (lines_of bytes) h h'
  front_by bytes unread a = record {
    failures = a.failures;
    allows = record { allows = a.allows; few = a.few };
    text = front_of_whole by lawful state (lines_of bytes) a.failures a.lines h h' a.text;
  }

  -- It ended well, and answered wholly.
  whole_by : (script : List (List ℕ)) (tally : Tally) → AnsweredWhole by most Stands state script h h' tally
      → AnswersScript most by state script h h'
  whole_by script tally a = record { failures = a.failures; allows = record { allows = a.allows; few = a.few }; text = a.text }

  -- Where the script couldn't be read on, it answered what was taken of it.
  taken_by : (before : ℕ) (bytes : List ℕ) (left : Option (List ℕ)) → AnsweredTaken by most Stands state before bytes left h h'
      → AnswersTaken most by state before bytes left h h'
  taken_by before bytes left a = record {
    failures = a.failures;
    allows = record { allows = a.allows; few = a.few };
    cut = a.cut;
    short = a.short;
    text = a.text;
  }

  -- What the status of a session says of the script.
  has_played : (before : ℕ) (o unread left : Option (List ℕ)) (r : Result Tally SessionFault)
      → IfSome o (λ bytes. ScriptAnswered by most Stands state before bytes unread left h h' r)
      → IfSome o (λ bytes. KeepsLimit before bytes r)
      → IfSome o (λ bytes. HasPlayed most (status_for r) by state before bytes left h h')
  has_played before o unread left (Ok tally) p limit = both_known o p limit (λ xs a fits. (whole_by (lines_of xs) tally a, fits))
  has_played before o unread left (Err faults.ReadFault) p limit = IfSome_then o p (λ xs a. taken_by before xs left a)
  has_played before o unread left (Err faults.InputTooLong) p limit = both_known o p limit (λ xs a long. (taken_by before xs left a, long))
  has_played before o unread left (Err fault) p limit = IfSome_then o p (λ xs a. front_by xs unread a)

-- A session was held, by a heap that had refused so much before the opening, before the session and after it.
pub session_plays : {by : Answering (List ℕ)} (lawful : IsLawful by) (Stands : by.State → Type 0) {state : by.State} {S K : Type 0}
    {told_in : ToldBySource S} {told_out : ToldBySink K} {first : ℕ} (before after : ℕ) {old new : Lines S} {output output' : K}
    {r : Result Tally SessionFault} {s : Status} → s ≡ status_for r → first ≤ before → before ≤ after
    → ByRefusals before after (λ most. IfSome (unread told_in old) (λ bytes. ScriptAnswered by most Stands state (bytes_taken old) bytes
    (unread told_in new) (source_left told_in new) (told_out.holds output) (told_out.holds output') r))
    → IfSome (unread told_in old) (λ bytes. KeepsLimit (bytes_taken old) bytes r)
    → HasSessionCause told_in told_out old new output output' r → HandsOnReplies r (told_out.back output')
    → Plays told_in told_out first after by state old new output output' s
session_plays {by} lawful Stands {state} {told_in} {told_out} {first} before after {old} {new} {output} {output'} {r} is opened held outcome limit
    cause none = rw is (record {
      works = ends_script r;
      ended = λ most known. has_played most by lawful Stands state (told_out.holds output) (told_out.holds output') (bytes_taken old)
          (unread told_in old) (unread told_in new) (source_left told_in new) r
          (outcome most (known_since most first before after opened known)) limit;
      accounts = session_accounts before r opened held cause none;
    })

-- Memory was short at the opening: nothing was read or written.
pub nothing_plays : {S K : Type 0} {by : Answering (List ℕ)} {state : by.State} {told_in : ToldBySource S}
    {told_out : ToldBySink K} {before after : ℕ} {lines : Lines S} {output : K} → before ≤ after → Rose before after
    → Plays told_in told_out before after by state lines lines output output status.Memory
nothing_plays {by} {state} {told_in} {told_out} {lines} {output} held rose = record {
  works = tt;
  ended = λ most known. all_known (unread told_in lines) _ (λ bytes.
      nothing_answered most by state (lines_of bytes) (told_out.holds output));
  accounts = none_accounts held rose;
}
