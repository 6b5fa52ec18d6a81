use Rattle.lx_lex.proofs.Imports.{[], arith}
use Rattle.lx_lex.proofs.ReadyNumbers.{rows_are}
use Rattle.lx_lex.proofs.ready.ready_digits.Goals as goal

pub returns-clause-few : goal.returns-clause-few
returns-clause-few c = (rows_are c.get.result [] 0 (omega arith)).1.0

pub returns-clause-digits : goal.returns-clause-digits
returns-clause-digits c = rw (← c.get.ensures.value) (rows_are c.get.result [] 0 (omega arith)).0
