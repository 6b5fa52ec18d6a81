use Rattle.lx_lists.proofs.Imports.{◌≡◌, length, second_show}
use Rattle.lx_lists.proofs.split.leave_second.Given as goal

abbrev pub invariant-loop-n : goal.invariant-loop-n
invariant-loop-n l = second_show l.show ≡ second_show l.fn.show

abbrev pub decreases-loop-n : goal.decreases-loop-n
decreases-loop-n l = length l.show.cues
