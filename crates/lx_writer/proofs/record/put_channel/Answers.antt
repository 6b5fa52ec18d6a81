use Rattle.lx_writer.proofs.Imports.{[], ◌∷◌, ap, at_text, Puts-is, Puts-then, Puts-stops}
use Rattle.lx_writer.proofs.record.put_channel.Goals as goal

pub returns-in_err-put_all : goal.returns-in_err-put_all
returns-in_err-put_all g c = Puts-stops _ c.in_err-put_all.ensures c.from_residual.ensures

pub returns-in_err-put_at_level : goal.returns-in_err-put_at_level
returns-in_err-put_at_level g c =
    Puts-then c.in_ok-put_all.ensures (Puts-stops (10 ∷ [])
    (Puts-is c.in_err-put_at_level.ensures (ap (λ n. at_text n c.args.level) c.get.ensures.value))
    c.from_residual-in_err-put_at_level.ensures)

pub returns : goal.returns
returns g c =
    Puts-then c.in_ok-put_all.ensures (Puts-then
    (Puts-is c.in_ok-put_at_level.ensures (ap (λ n. at_text n c.args.level) c.get.ensures.value)) c.put_all-2.ensures)
