use Rattle.lx_desk.proofs.Imports.{[], ◌∷◌, ◌++◌, codes, decimal, Puts-then, Puts-fails, Puts-stops}
use Rattle.lx_desk.proofs.generator.put_set.Goals as goal

pub returns-in_err-put_number : goal.returns-in_err-put_number
returns-in_err-put_number g c =
    Puts-stops (codes " at " ++ decimal c.args.setting.percent ++ 10 ∷ [])
    (Puts-fails {U = Unit {0}} (codes " chan " ++ decimal c.args.setting.channel) c.in_err-put_number.ensures) c.from_residual.ensures

pub returns-in_err-put_number-2 : goal.returns-in_err-put_number-2
returns-in_err-put_number-2 g c =
    Puts-stops (codes " at " ++ decimal c.args.setting.percent ++ 10 ∷ [])
    (Puts-then c.in_ok-put_number.ensures c.in_err-put_number-2.ensures) c.from_residual-in_err-put_number-2.ensures

pub returns : goal.returns
returns g c = Puts-then (Puts-then c.in_ok-put_number.ensures c.in_ok-put_number-2.ensures) c.put_last.ensures
