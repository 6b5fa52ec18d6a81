use Rattle.lx_crew.proofs.Imports.{◌≡◌, ◌≤◌, ◌+◌, ◌-◌, ◌^◌, ℕ, List, [], true, None, slice_get, Some, view, IsSamePass, Desk}
use Rattle.lx_crew.proofs.Imports.{StandsFor, Message, of_place, has_last, engine_view, HasAnswered, OutputCause}
use Rattle.lx_crew.proofs.engine.serve.Given as goal

abbrev pub invariant-loop : goal.invariant-loop
invariant-loop g l = record {
  can : (goal.iterator-loop g).can_next l.iterator';
  finite : (goal.iterator-loop g).is_finite l.iterator';
  same : IsSamePass l.initial.pass l.pass;
  popped : List Message;
  view : view l.pass ≡ engine_view l.operators popped [];
  ended : (k : ℕ) → slice_get l.ended k ≡ Some true → has_last (of_place k popped) ≡ true;
  later : g.H.Heap.refusals l.initial.heap ≤ g.H.Heap.refusals l.heap;
  answered : (d : Desk) → StandsFor d l.initial.console
      → HasAnswered (g.H.Heap.refusals l.initial.heap) (g.H.Heap.refusals l.heap) g.K.Sink d popped l.initial.sink l.sink l.console l.tally l.output;
  cause : OutputCause g.K.Sink l.initial.sink l.sink None l.output;
  ok : l.tally.ok + l.iterator'.left ≤ 2 ^ 64 - 1;
  refused : l.tally.refused + l.iterator'.left ≤ 2 ^ 64 - 1;
  bad : l.tally.bad + l.iterator'.left ≤ 2 ^ 64 - 1;
}
