use Rattle.std.proofs.Common.{[], ◌∷◌}
use Rattle.lx_io.proofs.Chain.{Puts-then, Puts-stops}
use Rattle.lx_report.proofs.Reports.{row_is}
use Rattle.lx_report.proofs.row.put_row.Goals as goal

pub returns-in_err-put_cells : goal.returns-in_err-put_cells
returns-in_err-put_cells g c =
    rw (row_is c.args.n c.args.row.now)
    (Puts-then c.in_ok-put_all.ensures (Puts-then c.in_ok-put_cue_no.ensures
    (Puts-stops (10 ∷ []) c.in_err-put_cells.ensures c.from_residual-in_err-put_cells.ensures)))

pub returns : goal.returns
returns g c =
    rw (row_is c.args.n c.args.row.now)
    (Puts-then c.in_ok-put_all.ensures (Puts-then c.in_ok-put_cue_no.ensures (Puts-then c.in_ok-put_cells.ensures c.put_all-2.ensures)))
