use Rattle.lx_show.proofs.Imports.{◌≡◌, map, take, drop, ◌++◌, out_of_part}
use Rattle.lx_show.proofs.moves.leave_part.Given as goal

abbrev pub invariant-loop-entry : goal.invariant-loop-entry
invariant-loop-entry l = l.moves ≡ map (out_of_part l.part) (take l.entry-index l.initial.moves) ++ drop l.entry-index l.initial.moves
