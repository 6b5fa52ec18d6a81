use Rattle.lx_script.proofs.Imports.{◌+◌, arith}
use Rattle.lx_script.proofs.Texts.{front_of}
use Rattle.lx_script.proofs.cells.write_row.Goals as goal

pub returns-clause-text : goal.returns-clause-text
returns-clause-text c = front_of (c.args.at + 4) c.args.at c.args.count c.args.text.now c.write_all.new.text c.args.row.now (omega arith)
    (omega arith) c.write_all.ensures
