use Rattle.lx_lex.proofs.Imports.{◌+◌, ◌≡◌, ◌≤◌, decimal, length}
use Rattle.lx_lex.proofs.put.digits_of.Given as goal

abbrev pub invariant-loop-rest : goal.invariant-loop-rest
invariant-loop-rest l = record {
  few : l.count + length (decimal l.rest) ≤ 20;
  digits : l.count + length (decimal l.rest) ≡ length (decimal l.value);
}

abbrev pub decreases-loop-rest : goal.decreases-loop-rest
decreases-loop-rest l = l.rest
