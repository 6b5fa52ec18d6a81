use Rattle.lx_lists.proofs.Imports.{◌≡◌, ◌≢◌, ◌≤◌, true, Some, Memory, begun, TwoDesks, LineProgress, TwoStand, TicksReach}
use Rattle.lx_session.specs.Spared.{HasStood}
use Rattle.lx_lists.proofs.attempts.attempt_all.Given as goal

abbrev pub invariant-commands : goal.invariant-commands
invariant-commands g l = record {
  meaning : l.turn.meaning ≡ l.fn.turn.meaning;
  later : g.H.Heap.refusals l.fn.heap ≤ g.H.Heap.refusals l.heap;
  memory : HasStood (g.H.Heap.refusals l.fn.heap) (g.H.Heap.refusals l.heap) → l.turn.refusal ≢ Some Memory;
  progress : (s : TwoDesks) → TwoStand s l.fn.desk
      → LineProgress true (TicksReach s.second l.desk.second) (begun s.first) l.fn.turn l.turn l.desk.first;
}

abbrev pub decreases-commands : goal.decreases-commands
decreases-commands g l = l.turn.left
