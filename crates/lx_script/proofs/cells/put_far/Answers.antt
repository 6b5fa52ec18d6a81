use Rattle.lx_script.proofs.Imports.{[], ◌∷◌, ◌++◌, ap, decimal, Puts-is, Puts-stops, Puts-then}
use Rattle.lx_script.proofs.Texts.{cell_of}
use Rattle.lx_script.proofs.cells.put_far.Goals as goal

pub returns-in_err-put_all : goal.returns-in_err-put_all
returns-in_err-put_all g c =
    Puts-is (Puts-stops ((decimal c.args.number ++ 61 ∷ []) ++ decimal c.args.level) c.in_err-put_all.ensures c.from_residual.ensures)
    (cell_of c.args.number c.args.level c.if-level-eq0.false)

pub returns-in_err-put_count_and : goal.returns-in_err-put_count_and
returns-in_err-put_count_and g c =
    Puts-is (Puts-then c.in_ok-put_all.ensures
    (Puts-stops (decimal c.args.level) c.in_err-put_count_and.ensures c.from_residual-in_err-put_count_and.ensures))
    (cell_of c.args.number c.args.level c.if-level-eq0.false)

pub returns : goal.returns
returns g c =
    Puts-is (Puts-then c.in_ok-put_all.ensures (Puts-then c.in_ok-put_count_and.ensures
    (Puts-is c.put_count.ensures (ap decimal c.from.ensures))))
    (cell_of c.args.number c.args.level c.if-level-eq0.false)
