use Rattle.lx_levels.proofs.Imports.{◌≡◌, ◌≤◌, length, reverse, take, tracked, last_cue, AreKnown, EachAct}
use Rattle.lx_levels.proofs.replay.ground_of.Given as goal

abbrev pub invariant-loop-left : goal.invariant-loop-left
invariant-loop-left l = record {
  within : l.left ≤ length l.live;
  at : l.target ≡ tracked l.show (last_cue l.base (reverse (take l.left l.live))) l.c;
  known : AreKnown l.show l.base l.live l.c l.left l.acts_of;
  later : EachAct (λ a. l.since ≤ a.start) l.live l.left l.acts_of;
  begun : l.since ≤ l.from;
}

abbrev pub decreases-loop-left : goal.decreases-loop-left
decreases-loop-left l = l.left
