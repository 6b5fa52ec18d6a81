-- A session whose accepted commands are published, from the opening to its end.
use Rattle.lx_workers.proofs.Imports.{◌≡◌, ◌≤◌, ℕ, Bool, true, false, cond, List, [], Option, Some, None, Result, IfSome}
use Rattle.lx_workers.proofs.Imports.{refl, subst, arith, Command, Show, Desk, opened, Kept, Published, IsInStep}
use Rattle.lx_workers.proofs.Imports.{engine_answering, most_of, SendsAll, IsMost, RoseAtMost}
use Rattle.lx_spec.specs.DeskSession.{DeskState, begun}
use Rattle.lx_console.specs.ConsoleMeaning.{StandsFor}
use Rattle.lx_session.specs.declared.fault.SessionFault.{SessionFault}
use Rattle.lx_session.specs.declared.tally.Tally.{Tally}
use Rattle.lx_session.specs.Listening.{HasDone}
use Rattle.lx_session.specs.ScriptAnswer.{ScriptAnswered}
use Rattle.lx_session.proofs.ScriptEnds.{stands_as}
use Rattle.lx_session.proofs.Stood.{stood_since}
use Rattle.lx_session.proofs.Refusals.{all_most}
use Rattle.lx_gate.proofs.UnsentCommands.{entered_none}

-- what says of commands that they were heard of says something else of them
abbrev Says : (List Command → Type 0) → (List Command → Type 0) → Type 0
Says heard heard' = (commands : List Command) → heard commands → heard' commands

done_as : (heard heard' : List Command → Type 0) → Says heard heard' → (d : Desk) (console : Kept) (state : DeskState)
    → HasDone heard d console state → HasDone heard' d console state
done_as heard heard' says d console state h =
    record { stands = h.stands; desk = h.desk; listened = says state.accepted h.listened }

-- the same of the outcome of a session of such commands, where the source may tell no bytes
pub outcomes_as : (most : Option ℕ) (all all' : List Command) → all ≡ all' → (heard heard' : List Command → Type 0) → Says heard heard'
    → (o : Option (List ℕ)) (d : Desk) (before : ℕ) (unread left held held' : Option (List ℕ)) (console : Kept) (r : Result Tally SessionFault)
    → IfSome o (λ bytes. ScriptAnswered (engine_answering all) (most_of most all) (HasDone heard d console) (begun d) before bytes unread left
    held held' r)
    → IfSome o (λ bytes. ScriptAnswered (engine_answering all') (most_of most all') (HasDone heard' d console) (begun d) before bytes unread left
    held held' r)
outcomes_as most all all' same heard heard' says None d before unread left held held' console r p = p
outcomes_as most all all' same heard heard' says (Some bytes) d before unread left held held' console r p =
    subst (λ l. ScriptAnswered (engine_answering l) (most_of most l) (HasDone heard' d console) (begun d) before bytes unread left held held' r) same
    (stands_as (engine_answering all) (most_of most all) (HasDone heard d console) (HasDone heard' d console) (done_as heard heard' says d console) (begun d)
    before bytes unread left held held' r p)

-- no more lines had to fail than the heap refused calls, where each command was admitted
pub most_for : (all : Bool) (most : Option ℕ) (refusals refusals' : ℕ) → IfSome most (RoseAtMost refusals refusals')
    → IfSome (cond all most None) (IsMost all refusals refusals')
most_for true most refusals refusals' known = all_most most refusals refusals' known
most_for false most refusals refusals' known = tt

-- a count of the writer's heap that was later, before the last publish
pub sends_since : (a b c : ℕ) (unsent : List Command) → a ≤ b → SendsAll b c unsent → SendsAll a c unsent
sends_since a b c unsent later s = record {
  later = let l = s.later in omega (arith, later, l);
  sent = λ stood. s.sent (stood_since a b c later stood);
}

-- at the opening
pub in_step_at : (show : Show) (gate : Published) (unsent : List Command) (console : Kept) → gate ≡ record { published = []; entered = [] }
    → unsent ≡ [] → StandsFor (opened show) console → IsInStep show gate unsent console
in_step_at show gate unsent console is none stands =
    rw (none, is) (record { stands = stands; few = omega arith; entered = entered_none [] [] refl })
