use Rattle.lx_session.proofs.line.answer.Goals as goal

pub returns-clause-answered : goal.returns-clause-answered
returns-clause-answered g c = λ s stands counted. (c.answer_in.ensures.answered s stands counted).answer
