use Rattle.lx_lex.proofs.Imports.{arith, length-decimal-le, length_four}
use Rattle.lx_lex.proofs.put.digits_of.Goals as goal

pub loop-rest-init : goal.loop-rest-init
loop-rest-init c =
    let most = length-decimal-le 20 c.args.value (omega arith) (omega arith) (omega arith) in
    record { few = omega (arith, most); digits = omega arith }

pub loop-rest-preserved : goal.loop-rest-preserved
loop-rest-preserved c =
    let four = length_four c.loop-rest.rest (omega arith) (omega arith) in
    record { few = omega (arith, four, c.loop-rest.invariant.few); digits = omega (arith, four, c.loop-rest.invariant.digits) }
