use Rattle.lx_crew.proofs.Imports.{sym}
use Rattle.lx_crew.proofs.AnswerProgress.{none_is, answered_flush}
use Rattle.lx_crew.proofs.answering.flush.Goals as goal

pub returns-then-is_none-clause-answered : goal.returns-then-is_none-clause-answered
returns-then-is_none-clause-answered g c = λ before now d popped start console tally so_far.
    answered_flush c.flush.result before now g.K.Sink d popped start _ _ console tally (none_is c.args.output.now (sym c.if-is_none.ensures))
    c.err.ensures.value c.flush.ensures.holds c.flush.ensures.cause so_far
