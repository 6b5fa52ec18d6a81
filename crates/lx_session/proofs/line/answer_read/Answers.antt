use Rattle.lx_session.proofs.AnsweredLines.{answered}
use Rattle.lx_session.proofs.line.answer_read.Goals as goal

pub returns-clause-answered : goal.returns-clause-answered
returns-clause-answered g c = λ s stands counted.
    answered {before = c.args.tally.now} c.attempt_all.ensures.memory (rw c.of-turn.ensures at (c.attempt_all.ensures.tried s.state stands))
    c.attempt_all.ensures.over counted c.finish.ensures.text c.finish.ensures.counts
