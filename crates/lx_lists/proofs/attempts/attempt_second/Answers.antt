use Rattle.lx_lists.proofs.Imports.{◌≡◌, ◌∙◌, None, ap, sym, LineState}
use Rattle.lx_session.proofs.Commands.{wants_none}
use Rattle.lx_session.proofs.AttemptSteps.{nothing_yet}
use Rattle.lx_lists.proofs.NextAttempt.{one_second, second_attempted}
use Rattle.lx_lists.proofs.attempts.attempt_second.Goals as goal

pub returns-in-Some-clause-tried : goal.returns-in-Some-clause-tried
returns-in-Some-clause-tried g c = λ s stands.
    one_second c.requires.start (sym c.in-Some.ensures) stands
    (λ x stand. rw c.err-refusal.ensures.value
    (second_attempted c.in-Some.command.now stand (c.second_in.ensures.steps x stand) c.second_in.ensures.unchanged))
    c.second_in.ensures.other c.attempted.ensures

pub returns-in_default-clause-tried : goal.returns-in_default-clause-tried
returns-in_default-clause-tried g c = λ s stands.
    nothing_yet stands.second (ap (λ (t : LineState). t.refusal) c.requires.start) stands.first

pub returns-in-Some-clause-memory : goal.returns-in-Some-clause-memory
returns-in-Some-clause-memory g c = λ stood is. wants_none c.err-refusal.ensures.value c.second_in.ensures.cause stood
    (sym (ap (λ (t : LineState). t.refusal) c.attempted.ensures) ∙ is)

pub returns-in_default-clause-memory : goal.returns-in_default-clause-memory
returns-in_default-clause-memory g c = λ stood is.
    let none : c.args.turn.now.refusal ≡ None = ap (λ (t : LineState). t.refusal) c.requires.start in cc
