use Rattle.lx_desk.proofs.Imports.{sym}
use Rattle.lx_desk.proofs.Finishing.{tells_none}
use Rattle.lx_desk.proofs.sheet.list.Goals as goal

pub returns-in-Ok : goal.returns-in-Ok
returns-in-Ok g c = rw (sym c.in-Ok.ensures.cause.kept)
    (c.finish.ensures (g.H.Heap.refusals c.open_in.new.heap) c.args.output.now _ c.put_cue_list.ensures)

pub returns-in-Err : goal.returns-in-Err
returns-in-Err g c = tells_none tt c.in-Err.ensures.cause.later c.in-Err.ensures.cause.failed
