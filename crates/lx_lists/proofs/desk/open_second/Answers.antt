use Rattle.lx_lists.proofs.Imports.{subst, IfOk, Show, opened, StandsFor}
use Rattle.lx_lists.proofs.desk.open_second.Goals as goal

pub returns-clause-stands : goal.returns-clause-stands
returns-clause-stands g c =
    subst (λ (s : Show). IfOk c.open_in.result (StandsFor (opened s))) c.in_ok-second.ensures.second c.open_in.ensures.stands
