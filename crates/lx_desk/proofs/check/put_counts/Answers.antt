use Rattle.lx_desk.proofs.Imports.{◌++◌, codes, decimal, Puts-then, Puts-stops}
use Rattle.lx_desk.proofs.check.put_counts.Goals as goal

pub returns-in_err-put_count : goal.returns-in_err-put_count
returns-in_err-put_count g c =
    Puts-then c.in_ok-put_all.ensures (Puts-stops (codes " channels " ++ decimal c.args.channels) c.in_err-put_count.ensures
    c.from_residual-in_err-put_count.ensures)
