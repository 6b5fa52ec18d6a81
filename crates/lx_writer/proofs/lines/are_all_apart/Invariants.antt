use Rattle.lx_writer.proofs.Imports.{◌≡◌, length, ◌==◌, filter, Move}
use Rattle.lx_writer.proofs.lines.are_all_apart.Given as goal

abbrev pub invariant-loop-rest : goal.invariant-loop-rest
invariant-loop-rest l = filter (λ (entry : Move). entry.part == l.part) l.moves ≡ filter (λ (entry : Move). entry.part == l.part) l.left

abbrev pub decreases-loop-rest : goal.decreases-loop-rest
decreases-loop-rest l = length l.left
