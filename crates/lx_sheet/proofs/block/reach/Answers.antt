use Rattle.lx_sheet.proofs.Imports.{◌-◌, ◌*◌, ℕ, List, vec_len, arith, take_all, width}
use Rattle.lx_sheet.proofs.BlockReach.{cell_grown}
use Rattle.lx_sheet.proofs.block.reach.Goals as goal

pub returns-in-Ok-clause-same : goal.returns-in-Ok-clause-same
returns-in-Ok-clause-same c = λ row chan.
    let old : List ℕ = c.args.levels.now.items in
    let more : ℕ = c.args.rows * width c.args.channels - vec_len c.args.levels.now in
    rw (c.in-Ok.ensures.items, take_all (c.args.rows * width c.args.channels) old (omega (arith, c.args.levels.now.ok)))
    (cell_grown c.args.channels old more row chan)
