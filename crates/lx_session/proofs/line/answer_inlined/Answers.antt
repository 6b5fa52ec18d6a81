use Rattle.lx_session.proofs.line.answer_inlined.Goals as goal

pub returns-in-Some-clause-answered : goal.returns-in-Some-clause-answered
returns-in-Some-clause-answered g c = λ s stands counted.
    let a = c.answer_key.ensures.answered s stands counted in
    rw c.in-Some.ensures (record { answer = a.answer; none = λ ample. a.none ample.admitted })
