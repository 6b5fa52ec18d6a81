use Rattle.lx_workers.proofs.WrittenLines.{puts_flushed}
use Rattle.lx_workers.proofs.worker.put_line.Goals as goal

pub returns-clause-puts : goal.returns-clause-puts
unfolding Rattle.lx_workers.specs.Lines.stamped_line
returns-clause-puts g c =
    puts_flushed g.K.Sink _ _ _ _ c.flush.result _ c.in_ok-put_frame.ensures c.flush.ensures.holds c.flush.ensures.cause
