use Rattle.lx_session.proofs.Commands.{answered, never_wants, not_admitted, obeyed, unadmitted}
use Rattle.lx_session.proofs.key.try_key.Goals as goal

pub returns-then-not-admitted-clause-attempted : goal.returns-then-not-admitted-clause-attempted
returns-then-not-admitted-clause-attempted c = λ d stands. unadmitted _ d _ _ c.if-not-admitted.true stands

pub returns-clause-attempted : goal.returns-clause-attempted
returns-clause-attempted c = λ d stands.
    answered _ d _ c.press.result c.err.result _ _ c.if-not-admitted.false
    (obeyed d _ c.press.result c.press.new.self (c.press.ensures.obeys d stands)) stands c.press.ensures.unchanged c.err.ensures.value

pub returns-then-not-admitted-clause-memory : goal.returns-then-not-admitted-clause-memory
returns-then-not-admitted-clause-memory c = λ every. not_admitted c.args.admitted c.if-not-admitted.true every

pub returns-clause-memory : goal.returns-clause-memory
returns-clause-memory c = λ every. never_wants c.press.result c.err.result c.err.ensures.value c.press.ensures.memory
