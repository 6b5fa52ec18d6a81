use Rattle.lx_edit.proofs.Imports.{◌≡◌, ◌≤◌, ◌<◌, ◌-◌, ℕ, false, None, option_copied, level_of, has_chan, move_by, Grows}
use Rattle.lx_edit.proofs.marks.mark_tracked.Given as goal

abbrev pub invariant-loop-k : goal.invariant-loop-k
invariant-loop-k l = record {
  grows : Grows l.initial.chans l.chans;
  marked : (c : ℕ) → 1 ≤ c → c < l.k → has_chan l.chans c ≡ false
      → move_by (option_copied l.cue) c ≡ None → level_of l.sheet (l.n - 1) c ≡ 0;
}
