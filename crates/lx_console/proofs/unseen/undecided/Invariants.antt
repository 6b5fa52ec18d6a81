use Rattle.lx_console.proofs.Imports.{◌≡◌, ℕ, ◌≤◌, ◌⊎◌, false, ◌-◌, has_chan, decided_at}
use Rattle.lx_console.proofs.unseen.undecided.Given as goal

abbrev pub invariant-loop-c : goal.invariant-loop-c
invariant-loop-c l = (c : ℕ) → 1 ≤ c → c ≤ l.k → has_chan l.left c ≡ false → (has_chan l.chans c ≡ false) ⊎ (decided_at l.near l.first c)

abbrev pub decreases-loop-c : goal.decreases-loop-c
decreases-loop-c l = l.show.channels - l.k
