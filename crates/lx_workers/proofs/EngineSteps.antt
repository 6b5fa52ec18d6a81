-- The engine's steps: a command is admitted, accepted and published.
use Rattle.lx_workers.proofs.Imports.{◌≡◌, ◌+◌, ◌-◌, ◌^◌, ◌<◌, ℕ, true, List, [], ◌∷◌, ◌++◌, length, length-append, ap}
use Rattle.lx_workers.proofs.Imports.{◌∙◌, arith, Command, Show, replay, Kept, Published, IsInStep, accepted_of, leaves_room}
use Rattle.lx_workers.proofs.Imports.{Result, Ok, Err, OnOk, HasCause, SendsAll}
use Rattle.std.proofs.lemmas.Bool.Decides.{nat_tests}
use Rattle.lx_session.specs.Attempts.{AcceptedStep}
use Rattle.lx_gate.proofs.DeskSteps.{in_step_push}

-- a command that is admitted can be counted
counted : (gate : Published) (unsent : List Command) → leaves_room (accepted_of gate unsent) ≡ true
    → length gate.published + (length unsent + 1) < 2 ^ 64 - 1
counted gate unsent room =
    let few : length (accepted_of gate unsent) < 2 ^ 62 = grind (arith, nat_tests) in
    omega (arith, few, length-append gate.published unsent)

-- an accepted command waits to be published
pub in_step_heard : (show : Show) (gate : Published) (unsent unsent' : List Command) (command : Command) (before after : Kept)
    → IsInStep show gate unsent before
    → AcceptedStep before command after → leaves_room (accepted_of gate unsent) ≡ true → unsent' ≡ unsent ++ command ∷ []
    → IsInStep show gate unsent' after
in_step_heard show gate unsent unsent' command before after h accepted room is =
    rw is (in_step_push show gate unsent command before after h (counted gate unsent room)
    (accepted (replay show (gate.published ++ unsent)) h.stands))

-- where commands left room, those before them did
pub left_room : (before after : List Command) (command : Command) → after ≡ before ++ command ∷ [] → leaves_room after ≡ true
    → leaves_room before ≡ true
left_room before after command is room =
    let n : length after ≡ length before + 1 = ap length is ∙ length-append before (command ∷ []) in
    let few : length after < 2 ^ 62 = grind (arith, nat_tests) in
    let fewer : length before < 2 ^ 62 = omega (arith, few, n) in
    grind (arith, nat_tests)

-- a publish sends all, or the writer's heap refused some
pub sends_of : {A E : Type 0} (answer : Result A E) (refusals refusals' : ℕ) (P : Type 0) (unsent' : List Command)
    → OnOk answer (P × (unsent' ≡ [])) → HasCause refusals refusals' answer → SendsAll refusals refusals' unsent'
sends_of (Ok a) refusals refusals' P unsent' ok h = record { later = h.later; sent = λ stood. ok.1 }
sends_of (Err e) refusals refusals' P unsent' ok h = record {
  later = h.later;
  sent = λ stood. absurd (let rose = h.failed in omega (arith, rose, stood));
}
