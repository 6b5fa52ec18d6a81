use Rattle.lx_session.proofs.Commands.{answered, not_admitted, unadmitted, wants_none}
use Rattle.lx_session.proofs.turn.try_command.Goals as goal

pub returns-then-not-admitted-clause-attempted : goal.returns-then-not-admitted-clause-attempted
returns-then-not-admitted-clause-attempted g c = λ d stands. unadmitted _ d _ _ c.if-not-admitted.true stands

pub returns-clause-attempted : goal.returns-clause-attempted
returns-clause-attempted g c = λ d stands. answered _ d _ c.command_in.result c.err.result _ _ c.if-not-admitted.false
    (c.command_in.ensures.answers d stands) stands c.command_in.ensures.unchanged c.err.ensures.value

pub returns-then-not-admitted-clause-memory : goal.returns-then-not-admitted-clause-memory
returns-then-not-admitted-clause-memory g c = λ ample. not_admitted c.args.admitted c.if-not-admitted.true ample.admitted

pub returns-clause-memory : goal.returns-clause-memory
returns-clause-memory g c = λ ample. wants_none c.err.ensures.value c.command_in.ensures.cause ample.stood
