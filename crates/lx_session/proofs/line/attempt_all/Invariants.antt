use Rattle.lx_session.proofs.Imports.{◌≡◌, ◌≢◌, ◌≤◌, true, Some, DeskState, StandsFor, Memory, IsAmple, LineProgress}
use Rattle.lx_session.proofs.line.attempt_all.Given as goal

abbrev pub invariant-commands : goal.invariant-commands
invariant-commands g l = record {
  keeps : g.L.Listener.keeps l.listener l.console;
  meaning : l.turn.meaning ≡ l.fn.turn.meaning;
  all : g.L.Listener.admitted_all l.listener ≡ true → g.L.Listener.admitted_all l.fn.listener ≡ true;
  later : g.H.Heap.refusals l.fn.heap ≤ g.H.Heap.refusals l.heap;
  memory : IsAmple (g.L.Listener.admitted_all l.listener) (g.H.Heap.refusals l.fn.heap) (g.H.Heap.refusals l.heap)
      → l.turn.refusal ≢ Some Memory;
  progress : (s : DeskState) → StandsFor s.desk l.fn.console
      → LineProgress (g.L.Listener.admitted_all l.listener) (g.L.Listener.heard l.fn.listener l.listener) s l.fn.turn l.turn l.console;
}

abbrev pub decreases-commands : goal.decreases-commands
decreases-commands g l = l.turn.left
