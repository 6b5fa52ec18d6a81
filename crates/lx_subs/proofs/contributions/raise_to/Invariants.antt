use Rattle.std.proofs.Common.{◌≡◌, ℕ, ◌<◌, ◌+◌, get_or, max, take, length}
use Rattle.lx_base.specs.Numbers.{scaled}
use Rattle.lx_spec.specs.Output.{level_among}
use Rattle.lx_subs.proofs.contributions.raise_to.Given as goal

abbrev pub invariant-loop-member : goal.invariant-loop-member
invariant-loop-member l = (k : ℕ) → k < length l.contributions
    → get_or l.contributions k 0 ≡ max (get_or l.initial.contributions k 0) (scaled (level_among (take l.member-index l.members) (k + 1)) l.fader)
