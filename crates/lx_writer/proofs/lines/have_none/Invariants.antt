use Rattle.lx_writer.proofs.Imports.{◌≡◌, [], take, ◌==◌, filter, Move}
use Rattle.lx_writer.proofs.lines.have_none.Given as goal

abbrev pub invariant-loop-entry : goal.invariant-loop-entry
invariant-loop-entry l = filter (λ (entry : Move). entry.part == l.part) (take l.entry-index l.moves) ≡ []
