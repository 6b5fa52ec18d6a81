use Rattle.lx_show.proofs.Imports.{◌+◌, ◌∙◌, arith}
use Rattle.lx_show.proofs.Stretches.{rest_of_slice}
use Rattle.lx_show.proofs.around.above.Goals as goal

pub returns-in-Ok : goal.returns-in-Ok
returns-in-Ok g c = rest_of_slice (c.in-Ok.at + 1) c.args.xs.now (omega (arith, c.in-Ok.ensures.stands.within)) ∙ c.in-Ok.ensures.stands.after

pub returns-in-Err : goal.returns-in-Err
returns-in-Err g c = rest_of_slice c.in-Err.at c.args.xs.now c.in-Err.ensures.goes.within ∙ c.in-Err.ensures.goes.after
