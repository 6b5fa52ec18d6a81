use Rattle.lx_workers.proofs.Imports.{◌≡◌, None, HasServed}
use Rattle.lx_workers.proofs.worker.serve.Given as goal

abbrev pub invariant-loop : goal.invariant-loop
invariant-loop g l = record {
  can : (goal.iterator-loop g).can_next l.iterator';
  finite : (goal.iterator-loop g).is_finite l.iterator';
  served : HasServed g.K.Sink g.P.Port.show l.initial.tap l.tap l.initial.sink l.sink l.served;
  learnt : l.tap.told.learnt ≡ l.initial.tap.told.learnt;
  none : l.served.fault ≡ None;
}
