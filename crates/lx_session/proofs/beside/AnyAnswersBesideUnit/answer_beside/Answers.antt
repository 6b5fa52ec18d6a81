use Rattle.lx_session.proofs.beside.AnyAnswersBesideUnit.answer_beside.Goals as goal

pub returns-clause-answered : goal.returns-clause-answered
returns-clause-answered g c = λ all ample may since s text stands counted is.
    c.answer_in.ensures.answered ample (λ e. (may.memory e).stood) s text stands counted is
