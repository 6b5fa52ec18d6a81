use Rattle.lx_undo.proofs.Imports.{◌≡◌, ◌≢◌, ◌≤◌, ◌-◌, true, Some, Memory, begun, UndoState, LineProgress, UndoStands, HasReached}
use Rattle.lx_session.specs.Spared.{HasStood}
use Rattle.lx_undo.proofs.session.attempt_all.Given as goal

abbrev pub invariant-commands : goal.invariant-commands
invariant-commands g l = record {
  meaning : l.turn.meaning ≡ l.fn.turn.meaning;
  later : g.H.Heap.refusals l.fn.heap ≤ g.H.Heap.refusals l.heap;
  memory : HasStood (g.H.Heap.refusals l.fn.heap) (g.H.Heap.refusals l.heap) → l.turn.refusal ≢ Some Memory;
  progress : (s : UndoState) → UndoStands s l.fn.desk
      → LineProgress true (HasReached s l.desk (l.fn.turn.left - l.turn.left)) (begun s.desk) l.fn.turn l.turn
      l.desk.console;
}

abbrev pub decreases-commands : goal.decreases-commands
decreases-commands g l = l.turn.left
