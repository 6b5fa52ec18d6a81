use Rattle.lx_desk.proofs.Finishing.{tells_whole, tells_fault}
use Rattle.lx_desk.proofs.finish.finish.Goals as goal

pub returns-in-Ok : goal.returns-in-Ok
returns-in-Ok g c = λ refusals before text put. tells_whole c.requires refusals (c.in-Ok.ensures.puts before text put) c.in-Ok.ensures.handed_on

pub returns-in-Err : goal.returns-in-Err
returns-in-Err g c = λ refusals before text put.
    rw c.status_of_sink.ensures (tells_fault c.requires refusals c.in-Err.fault (c.in-Err.ensures.puts before text put))
