-- The transcript of a crew: each operator's lines, numbered from 1, in some order with those of the others.
use Rattle.std.specs.Prelude.{◌≡◌, ◌⊎◌, ℕ, ◌-◌, List, ◌++◌, Option, length, take, drop, flat_map}
use Rattle.std.specs.Io.KnownBytes.{Appends}
use Rattle.lx_io.specs.Puts.{AppendsFront}
use Rattle.lx_io.specs.Told.{ToldBySink}
use Rattle.lx_spec.specs.CrewText.{CrewAllows, CrewEntry, Merged, MergedSoFar, crew_session, crew_text, op_text}
use Rattle.lx_spec.specs.Desk.{Desk}
use Rattle.lx_spec.specs.Kept.{Kept}
use Rattle.lx_console.specs.ConsoleMeaning.{StandsFor}
pub use Rattle.lx_session.specs.Known.{AppendsAtLeast}
use Rattle.lx_session.specs.declared.tally.Tally.{Tally}
use Rattle.lx_session.specs.LineReply.{counts_in}
use Rattle.lx_session.specs.Spared.{failed_count, IsAtMost}

-- In the session of a crew attempts failed only at edits that may take memory and that the desk accepts, and of no more lines than so many,
-- where a number is known.
pub record CrewAllowsBy (most : Option ℕ) (d : Desk) (entries : List CrewEntry) (failures : List (Option ℕ)) : Type 0 where
  pub allows : CrewAllows d entries failures
  pub few : IsAtMost most (failed_count failures)

-- The whole transcript was written, and the console stands for the desk after it. Attempts failed only at edits that may take memory.
pub record WholeTranscript (most : Option ℕ) (d : Desk) (lines : ℕ → List (List ℕ)) (held held' : Option (List ℕ)) (console : Kept)
    (tally : Tally) : Type 0 where
  pub entries : List CrewEntry
  pub merged : Merged lines entries
  pub failures : List (Option ℕ)
  pub allows : CrewAllowsBy most d entries failures
  pub text : Appends held held' (crew_text d entries failures)
  pub counts : counts_in tally ≡ (crew_session d entries failures).counts
  pub stands : StandsFor (crew_session d entries failures).state.desk console

-- all of a list but its last, and its last alone, if it has one
abbrev pub all_but_last : {A : Type 0} → List A → List A
all_but_last xs = take (length xs - 1) xs

abbrev pub last_alone : {A : Type 0} → List A → List A
last_alone xs = drop (length xs - 1) xs

-- A prefix of the transcript of first lines was written, and of all of them but the last it was written whole.
pub record TranscriptPrefix (most : Option ℕ) (d : Desk) (lines : ℕ → List (List ℕ)) (held held' : Option (List ℕ)) : Type 0 where
  pub entries : List CrewEntry
  pub merged : MergedSoFar lines entries
  pub failures : List (Option ℕ)
  pub allows : CrewAllowsBy most d entries failures
  pub text : AppendsFront held held' (crew_text d entries failures)
  pub earlier : AppendsAtLeast held held' (crew_text d (all_but_last entries) failures)

-- the transcript up to the name of the last entry, and that name
abbrev pub text_to_last_name : Desk → List CrewEntry → List (Option ℕ) → List ℕ
text_to_last_name d entries failures = crew_text d (all_but_last entries) failures ++ flat_map op_text (last_alone entries)

-- between these no write and no flush failed: both counts of the sink stand as they stood
abbrev pub NoneFailed : {K : Type 0} → ToldBySink K → (old new : K) → Type 0
NoneFailed told old new = (told.faults new ≡ told.faults old) × (told.wants new ≡ told.wants old)

-- This text was written, and maybe more, before any write or flush failed.
pub record WroteUnfailed {K : Type 0} (told : ToldBySink K) (sink : K) (text : List ℕ) : Type 0 where
  pub before : K
  pub wrote : AppendsAtLeast (told.holds sink) (told.holds before) text
  pub none_failed : NoneFailed told sink before

-- The name of the last entry was written whole before any write or flush failed, and its line is done: the console stands for the desk after it.
abbrev pub LastIsDone : {K : Type 0} → ToldBySink K → Desk → List CrewEntry → List (Option ℕ) → (sink sink' : K) → Kept → Type 0
LastIsDone told d entries failures sink sink' console =
    AppendsAtLeast (told.holds sink) (told.holds sink') (text_to_last_name d entries failures)
    × (WroteUnfailed told sink (text_to_last_name d entries failures) × StandsFor (crew_session d entries failures).state.desk console)

-- No more than the name of the last entry was written, and its line isn't done: the console stands for the desk after those before it. Their
-- text was written whole before any write or flush failed.
abbrev pub LastIsNamed : {K : Type 0} → ToldBySink K → Desk → List CrewEntry → List (Option ℕ) → (sink sink' : K) → Kept → Type 0
LastIsNamed told d entries failures sink sink' console =
    AppendsFront (told.holds sink) (told.holds sink') (text_to_last_name d entries failures)
    × (WroteUnfailed told sink (crew_text d (all_but_last entries) failures)
    × StandsFor (crew_session d (all_but_last entries) failures).state.desk console)

-- Which lines are done after a fault of the output: all of these entries, or all but the last, and no others. Before the fault all was
-- written up to the name of the last that is done.
abbrev pub HasStopped : {K : Type 0} → ToldBySink K → Desk → List CrewEntry → List (Option ℕ) → (sink sink' : K) → Kept → Type 0
HasStopped told d entries failures sink sink' console =
    LastIsDone told d entries failures sink sink' console ⊎ LastIsNamed told d entries failures sink sink' console

-- A prefix of the transcript of first lines was written, and no line behind these is done.
pub record StoppedTranscript {K : Type 0} (most : Option ℕ) (told : ToldBySink K) (d : Desk) (lines : ℕ → List (List ℕ)) (sink sink' : K)
    (console : Kept) : Type 0 where
  pub prefix : TranscriptPrefix most d lines (told.holds sink) (told.holds sink')
  pub stopped : HasStopped told d prefix.entries prefix.failures sink sink' console
