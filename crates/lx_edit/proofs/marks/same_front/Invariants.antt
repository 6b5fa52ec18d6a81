use Rattle.lx_edit.proofs.Imports.{◌≡◌, take}
use Rattle.lx_edit.proofs.marks.same_front.Given as goal

abbrev pub invariant-loop-at : goal.invariant-loop-at
invariant-loop-at l = take l.at l.old ≡ take l.at l.new
