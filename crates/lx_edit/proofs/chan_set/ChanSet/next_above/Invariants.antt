use Rattle.lx_edit.proofs.Imports.{◌≡◌, ◌≤◌, ◌<◌, ◌-◌, ℕ, false, has_chan}
use Rattle.lx_edit.proofs.chan_set.ChanSet.next_above.Given as goal

abbrev pub invariant-loop-place : goal.invariant-loop-place
invariant-loop-place l = record {
  start : l.k ≤ l.place;
  passed : (x : ℕ) → l.k < x → x ≤ l.place → has_chan l.self x ≡ false;
}

abbrev pub decreases-loop-place : goal.decreases-loop-place
decreases-loop-place l = l.last - l.place
