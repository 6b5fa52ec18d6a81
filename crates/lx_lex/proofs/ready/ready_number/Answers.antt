use Rattle.lx_lex.proofs.Imports.{[], arith}
use Rattle.lx_lex.proofs.ReadyNumbers.{rows_are}
use Rattle.lx_lex.proofs.ready.ready_number.Goals as goal

pub returns : goal.returns
returns c = rw (← c.get.ensures.value) (rows_are c.get.result [] 0 (omega arith)).1.1
