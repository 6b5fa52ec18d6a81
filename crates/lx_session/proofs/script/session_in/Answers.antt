use Rattle.lx_session.proofs.Refusals.{all_most}
use Rattle.lx_session.proofs.script.session_in.Goals as goal

pub returns-clause-outcome : goal.returns-clause-outcome
returns-clause-outcome g c = λ most known d stands. c.session_with_in.ensures.outcome most (all_most most _ _ known) d stands
