use Rattle.lx_writer.proofs.Imports.{[], ◌∷◌, ◌++◌, append_assoc, Puts-is, Puts-then, Puts-stops}
use Rattle.lx_spec.specs.Numerals.{time_text}
use Rattle.lx_writer.proofs.part.put_time.Goals as goal

pub returns-in_err-put_all : goal.returns-in_err-put_all
returns-in_err-put_all g c =
    Puts-is (Puts-stops ((time_text c.args.time ++ 32 ∷ []) ++ (time_text c.args.delay ++ 10 ∷ [])) c.in_err-put_all.ensures c.from_residual.ensures)
    (simp append_assoc)

pub returns-in_err-put_hundredths_and : goal.returns-in_err-put_hundredths_and
returns-in_err-put_hundredths_and g c =
    Puts-is (Puts-then c.in_ok-put_all.ensures
    (Puts-stops (time_text c.args.delay ++ 10 ∷ []) c.in_err-put_hundredths_and.ensures c.from_residual-in_err-put_hundredths_and.ensures))
    (simp append_assoc)

pub returns : goal.returns
returns g c =
    Puts-is (Puts-then c.in_ok-put_all.ensures (Puts-then c.in_ok-put_hundredths_and.ensures c.put_hundredths_and-2.ensures))
    (simp append_assoc)
