use Rattle.lx_fade.proofs.Imports.{◌≡◌, ◌≤◌, begun_by, stack_column}
use Rattle.lx_fade.proofs.stack.begun_in.Given as goal

abbrev pub invariant-loop-kept : goal.invariant-loop-kept
invariant-loop-kept l = record {
  within : l.kept ≤ l.at.used;
  same : begun_by l.m (stack_column l.row l.at.step l.at.first l.kept) ≡ begun_by l.m (stack_column l.row l.at.step l.at.first l.at.used);
}

abbrev pub decreases-loop-kept : goal.decreases-loop-kept
decreases-loop-kept l = l.kept
