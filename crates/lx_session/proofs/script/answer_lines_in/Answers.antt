use Rattle.lx_session.proofs.Imports.{refl, true}
use Rattle.lx_session.proofs.Refusals.{all_most}
use Rattle.lx_session.proofs.script.answer_lines_in.Goals as goal

pub returns-clause-outcome : goal.returns-clause-outcome
returns-clause-outcome g c = λ most known state stands.
    c.answer_each.ensures.outcome true most (λ is. refl) (all_most most _ _ known) tt state stands
