use Rattle.lx_lists.proofs.Imports.{ap, on_err_weaker, TwoKept}
use Rattle.lx_session.proofs.Commands.{never_wants, wants_none}
use Rattle.lx_lists.proofs.NextAttempt.{tick_attempted, tick_reaches, first_attempted, first_reaches, other_tick}
use Rattle.lx_lists.proofs.attempts.attempt.Goals as goal

pub returns-in-Tick-clause-first : goal.returns-in-Tick-clause-first
returns-in-Tick-clause-first g c = λ s stands. rw (c.err.ensures.value, c.in-Tick.is)
    (tick_attempted c.tick.result stands.first (c.tick.ensures.first s.first stands.first)
    (on_err_weaker c.tick.result (ap (λ (t : TwoKept). t.first)) c.tick.ensures.unchanged))

pub returns-in-Tick-clause-second : goal.returns-in-Tick-clause-second
returns-in-Tick-clause-second g c = λ s stands. rw (c.err.ensures.value, c.in-Tick.is)
    (tick_reaches c.tick.result stands.second (c.tick.ensures.second s.second stands.second)
    (on_err_weaker c.tick.result (ap (λ (t : TwoKept). t.second)) c.tick.ensures.unchanged))

pub returns-in-Tick-clause-memory : goal.returns-in-Tick-clause-memory
returns-in-Tick-clause-memory g c = λ stood. never_wants c.tick.result c.err.result c.err.ensures.value c.tick.ensures.memory

pub returns-in_default-clause-first : goal.returns-in_default-clause-first
returns-in_default-clause-first g c = λ s stands. rw c.err-in_default.ensures.value
    (first_attempted c.args.command.now stands (c.first_in.ensures.steps s stands) c.first_in.ensures.unchanged)

pub returns-in_default-clause-second : goal.returns-in_default-clause-second
returns-in_default-clause-second g c = λ s stands.
    first_reaches s.second c.args.command.now c.err-in_default.result c.args.desk.now.second c.first_in.new.self.second stands.second
    (other_tick c.args.command.now c.in_default.not-Tick) c.first_in.ensures.other

pub returns-in_default-clause-memory : goal.returns-in_default-clause-memory
returns-in_default-clause-memory g c = λ stood. wants_none c.err-in_default.ensures.value c.first_in.ensures.cause stood
