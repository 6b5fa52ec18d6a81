use Rattle.lx_desk.proofs.Imports.{[], ◌∷◌, codes, decimal, Puts-then, Puts-fails, Puts-stops, line}
use Rattle.lx_desk.proofs.make.put_report.Goals as goal

pub returns-in_err-put_line : goal.returns-in_err-put_line
returns-in_err-put_line g c =
    let r = c.args.report in
    Puts-stops (line (codes "sum" ∷ decimal r.sum ∷ []))
    (Puts-fails {U = Unit {0}} (line (codes "refused" ∷ decimal r.refused ∷ []))
    (Puts-fails {U = Unit {0}} (line (codes "ok" ∷ decimal r.ok ∷ []))
    (Puts-fails {U = Unit {0}} (line (codes "moment" ∷ decimal r.moment ∷ [])) c.in_err-put_line.ensures))) c.from_residual.ensures

pub returns-in_err-put_line-2 : goal.returns-in_err-put_line-2
returns-in_err-put_line-2 g c =
    let r = c.args.report in
    Puts-stops (line (codes "sum" ∷ decimal r.sum ∷ []))
    (Puts-fails {U = Unit {0}} (line (codes "refused" ∷ decimal r.refused ∷ []))
    (Puts-fails {U = Unit {0}} (line (codes "ok" ∷ decimal r.ok ∷ []))
    (Puts-then c.in_ok-put_line.ensures c.in_err-put_line-2.ensures))) c.from_residual-in_err-put_line-2.ensures

pub returns-in_err-put_line-3 : goal.returns-in_err-put_line-3
returns-in_err-put_line-3 g c =
    let r = c.args.report in
    Puts-stops (line (codes "sum" ∷ decimal r.sum ∷ [])) (Puts-fails {U = Unit {0}} (line (codes "refused" ∷ decimal r.refused ∷ []))
    (Puts-then (Puts-then c.in_ok-put_line.ensures c.in_ok-put_line-2.ensures) c.in_err-put_line-3.ensures))
    c.from_residual-in_err-put_line-3.ensures

pub returns-in_err-put_line-4 : goal.returns-in_err-put_line-4
returns-in_err-put_line-4 g c =
    Puts-stops (line (codes "sum" ∷ decimal c.args.report.sum ∷ []))
    (Puts-then (Puts-then (Puts-then c.in_ok-put_line.ensures c.in_ok-put_line-2.ensures) c.in_ok-put_line-3.ensures)
    c.in_err-put_line-4.ensures) c.from_residual-in_err-put_line-4.ensures

pub returns : goal.returns
returns g c =
    Puts-then (Puts-then (Puts-then (Puts-then c.in_ok-put_line.ensures c.in_ok-put_line-2.ensures) c.in_ok-put_line-3.ensures)
    c.in_ok-put_line-4.ensures) c.put_line-5.ensures
