-- The engine's commands: those that are published, and then those that aren't yet.
use Rattle.std.specs.Prelude.{◌≡◌, ◌≤◌, ◌+◌, ◌-◌, ◌^◌, ℕ, List, [], ◌∷◌, ◌++◌, length, Bool, ltb, cond, Option, None, Result, IfSome}
use Rattle.std.specs.Prelude.{IsSomeAnd}
use mathlib.Core.Path.{sym, ap, ◌∙◌}
use mathlib.Core.List.{append-nil, append_assoc}
use Rattle.std.proofs.Math.Nat.{add-le-add_iff_right, le-min, le_refl, le_trans, lt_of_le_of_lt, lt_of_lt_of_le, min-le_left, min-le_right}
use Rattle.lx_io.specs.Told.{ToldBySink, ToldBySource}
use Rattle.lx_lex.specs.declared.lines.Lines.{Lines}
use Rattle.lx_lex.specs.Unread.{SameSource, bytes_taken, source_left, unread}
use Rattle.lx_spec.specs.Show.{Show}
use Rattle.lx_spec.specs.Desk.{Desk}
use Rattle.lx_spec.specs.Session.{Answering}
use Rattle.lx_spec.specs.DeskSession.{begun, desk_answering}
use Rattle.lx_spec.specs.Kept.{Kept}
use Rattle.lx_console.specs.ConsoleMeaning.{StandsFor}
use Rattle.lx_session.specs.declared.fault.SessionFault.{SessionFault}
use Rattle.lx_session.specs.declared.tally.Tally.{Tally}
use Rattle.lx_session.specs.Listening.{HasDone}
use Rattle.lx_session.specs.ScriptAnswer.{ScriptAnswered}
use Rattle.lx_session.specs.SessionOutcome.{HasSessionCause, KeepsLimit}
use Rattle.lx_session.specs.Spared.{ByRefusals, HasStood}
use Rattle.lx_session.specs.Waits.{HandsOnReplies}
use Rattle.lx_gate.specs.Desks.{IsInStep}
use Rattle.lx_spec.specs.declared.Command.{Command}
use Rattle.lx_gate.specs.Gates.{Published}

-- all commands that were accepted: what is published, and then what is unsent
abbrev pub accepted_of : Published → List Command → List Command
accepted_of gate unsent = gate.published ++ unsent

-- these commands were accepted beside those that were
abbrev pub HasAccepted : Published → List Command → Published → List Command → List Command → Type 0
HasAccepted gate unsent gate' unsent' commands = accepted_of gate' unsent' ≡ accepted_of gate unsent ++ commands

-- after these commands one more can be counted: an engine admits it
abbrev pub leaves_room : List Command → Bool
leaves_room commands = ltb (length commands) (2 ^ 62)

-- How an engine answers that has accepted these commands: it admits every command, unless there were too many to count.
abbrev pub engine_answering : List Command → Answering (List ℕ)
engine_answering commands = desk_answering (leaves_room commands)

-- so many lines failed at most, where one is known; but none is known where there were too many commands to count
abbrev pub most_of : Option ℕ → List Command → Option ℕ
most_of most commands = cond (leaves_room commands) most None

-- By the count of a writer's heap: where it refused nothing, nothing waits to be published.
pub record SendsAll (refusals refusals' : ℕ) (unsent' : List Command) : Type 0 where
  pub later : refusals ≤ refusals'
  pub sent : HasStood refusals refusals' → unsent' ≡ []

-- behind commands that were heard nothing is unsent, and behind none nothing where nothing was
abbrev pub LeavesNone : (commands unsent unsent' : List Command) → Type 0
LeavesNone [] unsent unsent' = unsent ≡ [] → unsent' ≡ []
LeavesNone (command ∷ commands) unsent unsent' = unsent' ≡ []

-- the same by the count of a writer's heap: where it refused nothing, each command was published when it was heard
pub record HasSentOn (refusals : ℕ) (unsent : List Command) (refusals' : ℕ) (unsent' commands : List Command) : Type 0 where
  pub later : refusals ≤ refusals'
  pub sent : HasStood refusals refusals' → LeavesNone commands unsent unsent'

pub accepted_nothing : (gate : Published) (unsent : List Command) → HasAccepted gate unsent gate unsent []
accepted_nothing gate unsent = sym (append-nil (accepted_of gate unsent))

pub accepted_both : (gate : Published) (unsent : List Command) (gate' : Published) (unsent' : List Command) (gate'' : Published)
    (unsent'' : List Command) (before after : List Command)
    → HasAccepted gate unsent gate' unsent' before → HasAccepted gate' unsent' gate'' unsent'' after
    → HasAccepted gate unsent gate'' unsent'' (before ++ after)
accepted_both gate unsent gate' unsent' gate'' unsent'' before after one two =
    two ∙ (ap (λ l. l ++ after) one ∙ append_assoc (accepted_of gate unsent) before after)

leaves_both : (before after unsent unsent' unsent'' : List Command) → LeavesNone before unsent unsent' → LeavesNone after unsent' unsent''
    → LeavesNone (before ++ after) unsent unsent''
leaves_both [] [] unsent unsent' unsent'' one two = λ none. two (one none)
leaves_both [] (next ∷ after) unsent unsent' unsent'' one two = two
leaves_both (command ∷ before) [] unsent unsent' unsent'' one two = two one
leaves_both (command ∷ before) (next ∷ after) unsent unsent' unsent'' one two = two

-- a count that stands at the end stood all along
stood_first : (a b c : ℕ) → b ≤ c → HasStood a c → HasStood a b
stood_first a b c later stood = lt_of_le_of_lt later stood

stood_then : (a b c : ℕ) → a ≤ b → HasStood a c → HasStood b c
stood_then a b c later stood = lt_of_lt_of_le stood
    (le-min (le_trans (min-le_left (a + 1) (2 ^ 64 - 1)) ((add-le-add_iff_right 1).1 later)) (min-le_right (a + 1) (2 ^ 64 - 1)))

pub sent_nothing : (refusals : ℕ) (unsent : List Command) → HasSentOn refusals unsent refusals unsent []
sent_nothing refusals unsent = record { later = le_refl refusals; sent = λ stood none. none }

pub sent_both : (refusals : ℕ) (unsent : List Command) (refusals' : ℕ) (unsent' : List Command) (refusals'' : ℕ) (unsent'' : List Command)
    (before after : List Command)
    → HasSentOn refusals unsent refusals' unsent' before → HasSentOn refusals' unsent' refusals'' unsent'' after
    → HasSentOn refusals unsent refusals'' unsent'' (before ++ after)
sent_both refusals unsent refusals' unsent' refusals'' unsent'' before after one two = record {
  later = le_trans one.later two.later;
  sent = λ stood. leaves_both before after unsent unsent' unsent'' (one.sent (stood_first refusals refusals' refusals'' two.later stood))
      (two.sent (stood_then refusals refusals' refusals'' one.later stood));
}

-- A session was played. The console stands for the desk after all commands, and those that its lines came to are published or unsent. It
-- answered as a session in which every command is admitted, unless there were too many to count; and then no more lines failed than the heap
-- refused calls. What is unsent is so because the writer's heap refused some.
pub record HasRun {S K : Type 0} (told_in : ToldBySource S) (told_out : ToldBySink K)
    (show : Show) (refusals writers : ℕ) (gate : Published) (unsent : List Command) (console : Kept) (lines : Lines S) (output : K)
    (refusals' writers' : ℕ) (gate' : Published) (unsent' : List Command) (console' : Kept) (lines' : Lines S) (output' : K)
    (result : Result Tally SessionFault) : Type 0 where
  pub in_step : IsInStep show gate' unsent' console'
  pub same_source : SameSource lines lines'
  pub later : refusals ≤ refusals'
  pub sends : SendsAll writers writers' unsent'
  pub outcome : ByRefusals refusals refusals' (λ most. (d : Desk) → StandsFor d console
      → IfSome (unread told_in lines) (λ bytes. ScriptAnswered (engine_answering (accepted_of gate' unsent'))
      (most_of most (accepted_of gate' unsent')) (HasDone (HasAccepted gate unsent gate' unsent') d console') (begun d) (bytes_taken lines) bytes
      (unread told_in lines') (source_left told_in lines') (told_out.holds output) (told_out.holds output') result))
  pub limit : IfSome (unread told_in lines) (λ bytes. KeepsLimit (bytes_taken lines) bytes result)
  pub cause : HasSessionCause told_in told_out lines lines' output output' result
  pub handed_on : HandsOnReplies result (told_out.back output')

-- the same of a gate that is there, with nothing unsent before
abbrev pub HasRunFrom : {S K : Type 0} → ToldBySource S → ToldBySink K → Show
    → (refusals writers : ℕ) → Option Published → Kept → Lines S → K
    → (refusals' writers' : ℕ) → Option Published → List Command → Kept → Lines S → K → Result Tally SessionFault → Type 0
HasRunFrom told_in told_out show refusals writers gate console lines output refusals' writers' gate' unsent' console' lines' output' result =
    IsSomeAnd gate (λ held. IsSomeAnd gate' (λ held'. HasRun told_in told_out show refusals writers held [] console lines output
    refusals' writers' held' unsent' console' lines' output' result))
