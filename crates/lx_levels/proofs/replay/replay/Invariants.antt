use Rattle.lx_levels.proofs.Imports.{◌≡◌, ◌≤◌, ℕ, length, set, slice_index_or, Show, no_stack, IsGround, IsReplayed}
use Rattle.lx_levels.proofs.replay.replay.Given as goal

abbrev pub invariant-loop-i : goal.invariant-loop-i
invariant-loop-i l = record {
  gives : (show : Show) (base c from : ℕ) → IsGround show base l.live c from l.fn.oldest.first l.fn.oldest.level l.acts_of
      → IsReplayed show base l.live c from l.i l.acts_of (slice_index_or l.stacks l.k no_stack);
  few : length (slice_index_or l.stacks l.k no_stack).fades ≤ l.i;
  others : l.stacks ≡ set l.fn.stacks l.k (slice_index_or l.stacks l.k no_stack);
}
