use Rattle.lx_workers.proofs.Imports.{newest}
use Rattle.lx_workers.proofs.TapSteps.{longest_begins, taken}
use Rattle.lx_workers.proofs.WorkerSteps.{stepped}
use Rattle.lx_workers.proofs.worker.step.Goals as goal

pub put_newest-requires-clause-version : goal.put_newest-requires-clause-version
put_newest-requires-clause-version g c = rw c.take-stamp.ensures.universe c.take-stamp.ensures.version

pub returns-clause-stepped : goal.returns-clause-stepped
returns-clause-stepped g c =
    let t = c.take-stamp.ensures in
    stepped c.saturating_add-served.result c.saturating_add-served.ensures t.universe
    (longest_begins c.args.tap.now.told.seen c.args.tap.now.told.learnt (newest c.take-stamp.new.self.told) t.seen t.heard)
    (taken _ _ t.seen t.reading) c.put_newest.ensures

pub returns-clause-looked : goal.returns-clause-looked
returns-clause-looked g c = (taken _ _ c.take-stamp.ensures.seen c.take-stamp.ensures.reading).looked
