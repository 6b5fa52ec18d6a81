use Rattle.lx_reader.proofs.Imports.{ℕ, ◌≤◌, length, left, ReadsLevels}
use Rattle.lx_reader.proofs.open_moves.put_near.Given as goal

abbrev pub invariant-loop-member : goal.invariant-loop-member
invariant-loop-member l = record {
  levels : (i : ℕ) → ReadsLevels i l.part l.least (left l.fn.tokens) (left l.tokens) l.greatest l.initial.row
      l.row;
  fewer : length (left l.tokens) ≤ length (left l.fn.tokens);
}

abbrev pub decreases-loop-member : goal.decreases-loop-member
decreases-loop-member l = length (left l.tokens)
