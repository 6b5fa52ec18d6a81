use Rattle.lx_edit.proofs.Imports.{◌≤◌, ◌-◌, ℕ, CHANNELS, StandsIn, CanMend}
use Rattle.lx_edit.proofs.application.mend_columns.Given as goal

abbrev pub invariant-loop-c : goal.invariant-loop-c
invariant-loop-c l = record {
  left : CanMend l.show l.sheet l.from l.to l.chans;
  done : (c : ℕ) → 1 ≤ c → c ≤ l.k → StandsIn l.show c l.sheet;
}

abbrev pub decreases-loop-c : goal.decreases-loop-c
decreases-loop-c l = CHANNELS - l.k
