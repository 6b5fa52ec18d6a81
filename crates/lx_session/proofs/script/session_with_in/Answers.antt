use Rattle.lx_session.proofs.Imports.{refl, begun}
use Rattle.lx_session.proofs.script.session_with_in.Goals as goal

pub returns-clause-outcome : goal.returns-clause-outcome
returns-clause-outcome g c = λ most known d stands.
    let first = c.args.listener.now in
    c.answer_each.ensures.outcome (g.L.Listener.admitted_all c.answer_each.new.answerer) most (λ is. is) known
    (record { listener = first; desk = d }) (begun d)
    (record { stands = stands; desk = refl; listened = g.met.L.Listener.nothing first })
