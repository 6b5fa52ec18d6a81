use Rattle.lx_embed.proofs.Imports.{◌≤◌, ◌-◌, IsOkAnd, UndoState, after_ticks, UndoStands}
use Rattle.lx_embed.proofs.ticks.tick_undo.Given as goal

abbrev pub invariant-ticks : goal.invariant-ticks
invariant-ticks l = record {
  most : l.left ≤ l.n;
  ticks : (s : UndoState) → UndoStands s l.fn.desk
      → IsOkAnd (after_ticks (l.n - l.left) s.desk) (λ next. UndoStands (record s { desk = next }) l.desk);
}

abbrev pub decreases-ticks : goal.decreases-ticks
decreases-ticks l = l.left
