use Rattle.lx_levels.proofs.Imports.{◌≡◌, ℕ, ◌<◌, ◌≤◌, false, get_or, length, NEVER, IsAdvanced}
use Rattle.lx_levels.proofs.motion.Motion.advance.Given as goal

abbrev pub invariant-loop-k : goal.invariant-loop-k
invariant-loop-k l = record {
  advanced : IsAdvanced l.m l.k l.stacks l.self;
  most : l.due ≤ NEVER;
  held : (i : ℕ) → i < l.k → l.due ≤ get_or l.self.holds.items i 0;
  unchanged : l.changed ≡ false → (i : ℕ) → i < length l.stacks → get_or l.self.levels.items i 0 ≡ get_or l.fn.self.levels.items i 0;
}
