use Rattle.lx_lists.proofs.Imports.{◌≡◌, length, first_show}
use Rattle.lx_lists.proofs.split.leave_first.Given as goal

abbrev pub invariant-loop-n : goal.invariant-loop-n
invariant-loop-n l = first_show l.show ≡ first_show l.fn.show

abbrev pub decreases-loop-n : goal.decreases-loop-n
decreases-loop-n l = length l.show.cues
