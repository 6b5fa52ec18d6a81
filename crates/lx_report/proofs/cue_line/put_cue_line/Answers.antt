use Rattle.std.proofs.Common.{[], ◌∷◌}
use Rattle.lx_io.proofs.Chain.{Puts-then, Puts-stops}
use Rattle.lx_report.proofs.Reports.{line_is}
use Rattle.lx_report.proofs.cue_line.put_cue_line.Goals as goal

pub returns-in_err-put_counts : goal.returns-in_err-put_counts
returns-in_err-put_counts g c =
    rw (line_is c.args.cue.now) (Puts-then c.in_ok-put_kind.ensures
    (Puts-stops _ c.in_err-put_counts.ensures c.from_residual-in_err-put_counts.ensures))

pub returns-in_err-put_label : goal.returns-in_err-put_label
returns-in_err-put_label g c =
    rw (line_is c.args.cue.now) (Puts-then c.in_ok-put_kind.ensures
    (Puts-then c.in_ok-put_counts.ensures (Puts-stops (10 ∷ []) c.in_err-put_label.ensures c.from_residual-in_err-put_label.ensures)))

pub returns : goal.returns
returns g c = rw (line_is c.args.cue.now)
    (Puts-then c.in_ok-put_kind.ensures (Puts-then c.in_ok-put_counts.ensures (Puts-then c.in_ok-put_label.ensures c.put_all.ensures)))
