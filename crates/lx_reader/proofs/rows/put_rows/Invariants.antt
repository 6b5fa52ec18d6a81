use Rattle.lx_reader.proofs.Imports.{length, left}
use Rattle.lx_reader.proofs.SectionLevels.{RowsSoFar}
use Rattle.lx_reader.proofs.rows.put_rows.Given as goal

abbrev pub invariant-loop-row : goal.invariant-loop-row
invariant-loop-row l = RowsSoFar l.i l.fn.show l.show (left l.fn.tokens) (left l.tokens)

abbrev pub decreases-loop-row : goal.decreases-loop-row
decreases-loop-row l = length (left l.tokens)
