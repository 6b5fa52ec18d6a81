use Rattle.lx_workers.proofs.Imports.{rules}
use Rattle.lx_workers.proofs.WorkerSteps.{put_none, put_whole, put_part}
use Rattle.lx_workers.proofs.worker.put_newest.Goals as goal

pub returns-then-not-is_newer : goal.returns-then-not-is_newer
returns-then-not-is_newer g c = put_none c.args.stamp.count c.requires.none c.requires.version.count_is (search rules)

pub returns-in-Ok : goal.returns-in-Ok
returns-in-Ok g c =
    rw c.saturating_add-served.ensures (put_whole _ _ c.args.tap.now c.args.sink.now c.put_line.new.sink c.args.served.now c.args.slots.now c.args.stamp
    c.requires.none c.requires.version (search rules) (rw (c.universe.ensures.value, c.in-Ok.is) at c.put_line.ensures.puts) c.in-Ok.ensures.handed_on)

pub returns-in-Err : goal.returns-in-Err
returns-in-Err g c =
    put_part _ _ c.args.tap.now c.args.sink.now c.put_line.new.sink c.args.served.now c.args.slots.now c.args.stamp c.requires.none
    c.requires.version (search rules) c.in-Err.fault (rw (c.universe.ensures.value, c.in-Err.is) at c.put_line.ensures.puts)
