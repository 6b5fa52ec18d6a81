use Rattle.lx_levels.proofs.Imports.{◌≡◌, ◌+◌, ℕ, ◌<◌, length, [], level_of, kept_stack}
use Rattle.lx_levels.proofs.levels.Levels.settled.Given as goal

abbrev pub invariant-loop-k : goal.invariant-loop-k
invariant-loop-k l = record {
  moment : l.self.moment ≡ l.fn.self.moment;
  reach : length l.self.stacks ≡ length l.fn.self.stacks;
  each : (i : ℕ) → i < l.k → kept_stack l.self i ≡ record { bottom = level_of l.sheet l.base (i + 1); fades = [] };
}
