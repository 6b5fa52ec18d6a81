use Rattle.lx_console.proofs.Imports.{◌≡◌, ℕ, ◌<◌, length, StackStandsAt}
use Rattle.lx_console.proofs.levels.recompute_all.Given as goal

abbrev pub invariant-loop-k : goal.invariant-loop-k
invariant-loop-k l = record {
  moment : l.levels.moment ≡ l.playback.moment;
  reach : length l.levels.stacks ≡ l.show.channels;
  done : (i : ℕ) → i < l.k → StackStandsAt l.show l.playback l.levels i;
}
