-- What the engine answers.
use Rattle.std.specs.Prelude.{◌≡◌, ◌⊎◌, ◌≤◌, ◌<◌, ℕ, ◌+◌, Bool, true, Option, Some, None, Result, IsErr, List, [], ◌∷◌, ◌++◌}
use Rattle.std.specs.Prelude.{length, replicate, flat_map}
use Rattle.std.specs.Io.KnownBytes.{Appends}
use Rattle.lx_base.specs.declared.TheConstants.{LINE_BYTES}
use Rattle.lx_io.specs.declared.sink.SinkFault.{SinkFault}
use Rattle.lx_io.specs.declared.sink.SinkFault.TheVariants.{Failed, Memory}
use Rattle.lx_io.specs.Causes.{Rose}
use Rattle.lx_io.specs.Puts.{AppendsFront}
use Rattle.lx_io.specs.Told.{ToldBySink}
use Rattle.lx_spec.specs.declared.Line.{Line as Meant}
use Rattle.lx_spec.specs.CrewText.{CrewAllows, CrewEntry, crew_session, crew_text}
use Rattle.lx_spec.specs.Desk.{Desk}
use Rattle.lx_spec.specs.Kept.{Kept}
use Rattle.lx_spec.specs.Session.{Session, with_text}
use Rattle.lx_spec.specs.DeskSession.{DeskState}
use Rattle.lx_console.specs.ConsoleMeaning.{StandsFor}
use Rattle.lx_session.specs.declared.tally.Tally.{Tally}
use Rattle.lx_session.specs.LineAnswer.{SparedAnswer}
use Rattle.lx_session.specs.Spared.{failed_count, IsAmple, RoseBy}
use Rattle.lx_session.specs.LineReply.{counts_in}
use Rattle.lx_crew.specs.declared.entry.Message.{Message}
use Rattle.lx_crew.specs.declared.entry.Sent.{Sent}
use Rattle.lx_crew.specs.declared.entry.Sent.TheVariants.{Line, LongLine, End, ReadFault, InputTooLong}
use Rattle.lx_crew.specs.declared.rule.View.{View}
use Rattle.lx_crew.specs.Entries.{text_in, of_place, is_last, has_last}
use Rattle.lx_crew.specs.Rule.{engine_view, Takes}
use Rattle.lx_crew.specs.Transcripts.{AppendsAtLeast, HasStopped, NoneFailed, all_but_last}
use Rattle.std.specs.Prelude.{slice_get}

-- Stands for the text of any line of more than 4,096 bytes: each is bad.
abbrev pub long_line : List ℕ
long_line = replicate (LINE_BYTES + 1) 0

-- the entry of the transcript: the operator is numbered from 1
abbrev pub named_line : ℕ → ℕ → List ℕ → CrewEntry
named_line place number text = record { operator = place + 1; number = number; line = text }

abbrev pub entries_of : ℕ → ℕ → Sent → List CrewEntry
entries_of place number (Line l) = named_line place number (text_in l) ∷ []
entries_of place number LongLine = named_line place number long_line ∷ []
entries_of place number End = []
entries_of place number ReadFault = []
entries_of place number InputTooLong = []

-- the entries of the transcript
abbrev pub said : List Message → List CrewEntry
said entries = flat_map (λ (e : Message). entries_of e.place e.number e.sent) entries

-- The name of a line was written without a fault, and the line done and answered. Where the heap refused nothing no attempt failed.
pub record NamedAnswer {K : Type 0} (refusals refusals' : ℕ) (told : ToldBySink K) (sink sink' : K) (result : Result Bool SinkFault)
    (s : Session DeskState) (name : List ℕ) (meaning : Option Meant) (console : Kept) (tally : Tally) : Type 0 where
  pub between : K
  pub named : Appends (told.holds sink) (told.holds between) name
  pub none_failed : NoneFailed told sink between
  pub answer : SparedAnswer (IsAmple true refusals refusals') true (λ commands. Unit {0}) told between sink' result (with_text s name) meaning
      console tally

-- or a prefix of the name was written, and the line isn't done
abbrev pub AnswersNamed : {K : Type 0} → (refusals refusals' : ℕ) → ToldBySink K → (sink sink' : K) → Result Bool SinkFault
    → Session DeskState → List ℕ → Option Meant → Kept → Tally → Type 0
AnswersNamed refusals refusals' told sink sink' result s name meaning console tally =
    (IsErr result × AppendsFront (told.holds sink) (told.holds sink') name × StandsFor s.state.desk console)
    ⊎ NamedAnswer refusals refusals' told sink sink' result s name meaning console tally

-- The entries are done from a desk on, of each is told which attempt failed, if one did, and the session has come so far. As many calls as
-- lines that failed were refused by the heap.
pub record IsDoneWithEntries (refusals refusals' : ℕ) (d : Desk) (entries : List CrewEntry) (failures : List (Option ℕ)) (now : Session DeskState)
    : Type 0 where
  pub each : length failures ≡ length entries
  pub is : crew_session d entries failures ≡ now
  pub allows : CrewAllows d entries failures
  pub few : RoseBy refusals refusals' (failed_count failures)

-- What was popped is answered, its whole transcript was written, and no write and no flush failed. `refusals` is the heap's count before it,
-- and `refusals'` that behind it.
pub record AnsweredAll {K : Type 0} (refusals refusals' : ℕ) (told : ToldBySink K) (d : Desk) (popped : List Message) (sink sink' : K)
    (console : Kept) (tally : Tally) : Type 0 where
  pub failures : List (Option ℕ)
  pub now : Session DeskState
  pub done : IsDoneWithEntries refusals refusals' d (said popped) failures now
  pub text : Appends (told.holds sink) (told.holds sink') now.text
  pub none_failed : NoneFailed told sink sink'
  pub counts : now.counts ≡ counts_in tally
  pub stands : StandsFor now.state.desk console

-- The first of what was popped is answered, up to a fault of the output: a prefix of its transcript was written, and of all of it but the
-- last it was written whole. No line of the rest is done.
pub record AnsweredPart {K : Type 0} (refusals refusals' : ℕ) (told : ToldBySink K) (d : Desk) (popped : List Message) (sink sink' : K)
    (console : Kept) : Type 0 where
  pub first : List Message
  pub rest : List Message
  pub are : popped ≡ first ++ rest
  pub failures : List (Option ℕ)
  pub allows : CrewAllows d (said first) failures
  pub few : RoseBy refusals refusals' (failed_count failures)
  pub text : AppendsFront (told.holds sink) (told.holds sink') (crew_text d (said first) failures)
  pub earlier : AppendsAtLeast (told.holds sink) (told.holds sink') (crew_text d (all_but_last (said first)) failures)
  pub stopped : HasStopped told d (said first) failures sink sink' console

-- by the fault of the output
abbrev pub HasAnswered : {K : Type 0} → (refusals refusals' : ℕ) → ToldBySink K → Desk → List Message → (sink sink' : K) → Kept → Tally
    → Option SinkFault → Type 0
HasAnswered refusals refusals' told d popped sink sink' console tally None = AnsweredAll refusals refusals' told d popped sink sink' console tally
HasAnswered refusals refusals' told d popped sink sink' console tally (Some fault) =
    AnsweredPart refusals refusals' told d popped sink sink' console

-- Neither count of the output has fallen, and a fault that is new comes only where its own count rose. Where there is none now, there was
-- none before, and both counts stand as they were.
pub record OutputCause {K : Type 0} (told : ToldBySink K) (old new : K) (before after : Option SinkFault) : Type 0 where
  pub later : told.faults old ≤ told.faults new
  pub wants_later : told.wants old ≤ told.wants new
  pub failed : after ≡ Some Failed → (before ≡ Some Failed) ⊎ Rose (told.faults old) (told.faults new)
  pub memory : after ≡ Some Memory → (before ≡ Some Memory) ⊎ Rose (told.wants old) (told.wants new)
  pub kept : after ≡ None → (before ≡ None) × (told.faults new ≡ told.faults old) × (told.wants new ≡ told.wants old)

-- a place that is set now was set before, or the entry is the last of that operator
abbrev pub Marked : Message → List Bool → List Bool → Type 0
Marked e before after = (k : ℕ) → slice_get after k ≡ Some true → (slice_get before k ≡ Some true) ⊎
    ((e.place ≡ k) × (is_last e.sent ≡ true))

-- one entry was popped and answered
pub record NextEntry {K : Type 0} (refusals refusals' : ℕ) (told : ToldBySink K) (v w : View) (sink sink' : K) (console console' : Kept)
    (tally tally' : Tally) (output output' : Option SinkFault) (ended ended' : List Bool) : Type 0 where
  pub entry : Message
  pub takes : Takes v entry w
  pub marked : Marked entry ended ended'
  pub answered : (before : ℕ) (d : Desk) (popped : List Message) (start : K)
      → HasAnswered before refusals told d popped start sink console tally output
      → HasAnswered before refusals' told d (popped ++ entry ∷ []) start sink' console' tally' output'

-- The engine took entries to the last of each operator and answered them. Where the output had no fault it keeps nothing back.
pub record HasServedEntries {K : Type 0} (refusals refusals' : ℕ) (told : ToldBySink K) (operators : ℕ) (v : View)
    (sink sink' : K) (console console' : Kept) (tally : Tally) (output : Option SinkFault) : Type 0 where
  pub popped : List Message
  pub view : v ≡ engine_view operators popped []
  pub ended : (k : ℕ) → k < operators → has_last (of_place k popped) ≡ true
  pub later : refusals ≤ refusals'
  pub answered : (d : Desk) → StandsFor d console → HasAnswered refusals refusals' told d popped sink sink' console' tally output
  pub cause : OutputCause told sink sink' None output
  pub handed_on : output ≡ None → told.back sink' ≡ []
