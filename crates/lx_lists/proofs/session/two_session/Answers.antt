use Rattle.std.specs.Prelude.{None}
use Rattle.lx_lists.proofs.session.two_session.Goals as goal

pub returns-clause-outcome : goal.returns-clause-outcome
returns-clause-outcome g c = λ state stands. c.two_session_in.ensures.outcome None tt state stands
