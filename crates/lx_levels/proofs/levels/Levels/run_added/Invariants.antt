use Rattle.lx_levels.proofs.Imports.{◌≤◌, ◌-◌, IsAdded}
use Rattle.lx_levels.proofs.levels.Levels.run_added.Given as goal

abbrev pub invariant-loop-k : goal.invariant-loop-k
invariant-loop-k l = record {
  within : l.k ≤ l.channels;
  added : IsAdded l.show l.playback l.k l.fn.self l.self;
}

abbrev pub decreases-loop-k : goal.decreases-loop-k
decreases-loop-k l = l.channels - l.k
