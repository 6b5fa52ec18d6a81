use Rattle.lx_crew.proofs.Imports.{◌≡◌, view, IsSamePass}
use Rattle.lx_crew.proofs.operator.send.Given as goal

abbrev pub invariant-loop : goal.invariant-loop
invariant-loop g l = record {
  can : (goal.iterator-loop g).can_next l.iterator';
  finite : (goal.iterator-loop g).is_finite l.iterator';
  same : IsSamePass l.initial.pass l.pass;
  view : view l.pass ≡ view l.initial.pass;
  entry : l.entry ≡ l.initial.entry;
}
