use Rattle.lx_undo.proofs.LineAnswers.{answered_asked}
use Rattle.lx_undo.proofs.session.answer_asked.Goals as goal

pub returns-clause-answered : goal.returns-clause-answered
returns-clause-answered g c = λ ample stood s text stands counted is.
    answered_asked c.args.tally.now is counted ample c.ask-denial.result (c.ask-denial.ensures.asked s.state stands)
    (λ is_ample. c.ask-denial.ensures.own (stood is_ample) s.state stands)
    c.give.ensures.counts c.give.ensures.text
