use Rattle.lx_session.proofs.Imports.{None}
use Rattle.lx_session.proofs.script.session.Goals as goal

pub returns-clause-outcome : goal.returns-clause-outcome
returns-clause-outcome g c = λ d stands. c.session_in.ensures.outcome None tt d stands
