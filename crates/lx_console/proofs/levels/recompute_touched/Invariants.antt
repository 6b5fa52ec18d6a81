use Rattle.lx_console.proofs.Imports.{◌≡◌, ℕ, ◌+◌, ◌-◌, ◌<◌, ◌≤◌, false, length, has_chan, StackStandsAt}
use Rattle.lx_console.proofs.levels.recompute_touched.Given as goal

abbrev pub invariant-loop-c : goal.invariant-loop-c
invariant-loop-c l = record {
  moment : l.levels.moment ≡ l.playback.moment;
  reach : length l.levels.stacks ≡ l.show.channels;
  same : l.changed ≡ false → l.levels ≡ l.initial.levels;
  done : (i : ℕ) → i < l.k → i < l.show.channels → StackStandsAt l.show l.playback l.levels i;
  left : (i : ℕ) → l.k ≤ i → i < l.show.channels → has_chan l.chans (i + 1) ≡ false → StackStandsAt l.show l.playback l.levels i;
}

abbrev pub decreases-loop-c : goal.decreases-loop-c
decreases-loop-c l = l.show.channels - l.k
