use Rattle.lx_reader.proofs.Imports.{length, left, ReadsLevels}
use Rattle.lx_reader.proofs.open_moves.put_line.Given as goal

abbrev pub invariant-loop-tokens : goal.invariant-loop-tokens
invariant-loop-tokens l = ReadsLevels l.i l.part l.least (left l.fn.tokens) (left l.tokens) l.greatest l.initial.row
    l.row

abbrev pub decreases-loop-tokens : goal.decreases-loop-tokens
decreases-loop-tokens l = length (left l.tokens)
