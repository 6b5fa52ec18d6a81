use Rattle.lx_script.proofs.Imports.{[], ◌∷◌, ◌++◌, ap, decimal, Puts-is, Puts-stops, Puts-then}
use Rattle.lx_script.proofs.reply.put_of_number.Goals as goal

pub returns-in_err-put_all : goal.returns-in_err-put_all
returns-in_err-put_all g c = Puts-stops _ c.in_err-put_all.ensures c.from_residual.ensures

pub returns : goal.returns
returns g c = Puts-then c.in_ok-put_all.ensures (Puts-is c.put_count_and.ensures (ap (λ n. decimal n ++ 10 ∷ []) c.from.ensures))
