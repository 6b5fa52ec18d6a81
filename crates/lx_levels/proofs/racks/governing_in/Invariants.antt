use Rattle.lx_levels.proofs.Imports.{◌≡◌, ◌⊎◌, ℕ, ◌<◌, ◌≤◌, stack_at, NEVER, stack_column}
use Rattle.lx_levels.proofs.racks.governing_in.Given as goal

abbrev pub invariant-loop-left : goal.invariant-loop-left
invariant-loop-left l = record {
  within : l.left ≤ l.count;
  wake : l.m < l.wake;
  most : l.wake ≤ NEVER;
  same : (x : ℕ) → l.m ≤ x → (x < l.wake) ⊎ (l.wake ≡ NEVER)
      → stack_at l.bottom (stack_column l.block l.channels l.k l.count) x ≡ stack_at l.bottom (stack_column l.block l.channels l.k l.left) x;
}

abbrev pub decreases-loop-left : goal.decreases-loop-left
decreases-loop-left l = l.left
