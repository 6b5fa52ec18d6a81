use Rattle.lx_edit.proofs.Imports.{◌≤◌, ◌-◌, List, length, take, Move, AreAmong, Grows}
use Rattle.lx_edit.proofs.marks.mark_below.Given as goal

abbrev pub invariant-loop-next : goal.invariant-loop-next
invariant-loop-next l = record {
  grows : Grows l.initial.chans l.chans;
  within : l.next ≤ length l.moves;
  marked : (others : List Move) → AreAmong l.initial.chans (take l.initial.next l.moves) others
      → AreAmong l.chans (take l.next l.moves) others;
}

abbrev pub decreases-loop-next : goal.decreases-loop-next
decreases-loop-next l = length l.initial.moves - l.next
