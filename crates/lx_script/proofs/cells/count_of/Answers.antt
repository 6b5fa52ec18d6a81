use Rattle.lx_script.proofs.Imports.{arith}
use Rattle.lx_script.proofs.Ready.{count_at, few_in_cell}
use Rattle.lx_script.proofs.cells.count_of.Goals as goal

pub returns : goal.returns
returns c =
    let is = count_at c.args.width c.args.level c.requires.least c.requires.most (omega arith) in
    record { few = omega (arith, is, few_in_cell c.args.width c.args.level c.requires.most (omega arith)); count = is }
