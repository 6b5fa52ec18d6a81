use Rattle.lx_show.proofs.Imports.{◌<◌, ◌≤◌, ◌-◌, length, take}
use Rattle.lx_show.proofs.Stretches.{Fits}
use Rattle.lx_show.proofs.stretch.stretch.Given as goal

abbrev pub invariant-loop-count : goal.invariant-loop-count
invariant-loop-count g l = record {
  some : 0 < l.count;
  most : l.count ≤ length l.more;
  fits : Fits g.T.Keyed.key l.least l.at l.xs (take l.count l.more);
}

abbrev pub decreases-loop-count : goal.decreases-loop-count
decreases-loop-count g l = length l.more - l.count
