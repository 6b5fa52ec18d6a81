use Rattle.lx_workers.proofs.WrittenLines.{puts_flushed}
use Rattle.lx_desk.proofs.finish.flush_behind.Goals as goal

pub returns-in-Ok-clause-puts : goal.returns-in-Ok-clause-puts
returns-in-Ok-clause-puts g c = λ before text put.
    puts_flushed g.K.Sink _ _ _ _ c.flush.result _ (rw c.in-Ok.is at put) c.flush.ensures.holds c.flush.ensures.cause

pub returns-in-Err-clause-puts : goal.returns-in-Err-clause-puts
returns-in-Err-clause-puts g c = λ before text put. rw c.in-Err.is at put
