use Rattle.lx_writer.proofs.Imports.{Puts-then, Puts-stops, Puts-fails}
use Rattle.lx_writer.proofs.part.put_part.Goals as goal

pub returns-in_err-put_number : goal.returns-in_err-put_number
returns-in_err-put_number g c = Puts-stops _ (Puts-fails {U = Unit {0}} _ (Puts-fails {U = Unit {0}} _ c.in_err-put_number.ensures))
    c.from_residual.ensures

pub returns-in_err-put_time : goal.returns-in_err-put_time
returns-in_err-put_time g c = Puts-stops _ (Puts-fails {U = Unit {0}} _ (Puts-then c.in_ok-put_number.ensures c.in_err-put_time.ensures))
    c.from_residual-in_err-put_time.ensures

pub returns-in_err-put_time-2 : goal.returns-in_err-put_time-2
returns-in_err-put_time-2 g c = Puts-stops _
    (Puts-then (Puts-then c.in_ok-put_number.ensures c.in_ok-put_time.ensures) c.in_err-put_time-2.ensures)
    c.from_residual-in_err-put_time-2.ensures

pub returns : goal.returns
returns g c = Puts-then (Puts-then (Puts-then c.in_ok-put_number.ensures c.in_ok-put_time.ensures) c.in_ok-put_time-2.ensures)
    c.put_moves.ensures
