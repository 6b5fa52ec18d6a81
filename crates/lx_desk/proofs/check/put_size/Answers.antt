use Rattle.lx_desk.proofs.Imports.{[], ◌∷◌, ◌++◌, ap, length, codes, decimal, Puts-then, Puts-stops, Puts-is, reading_of}
use Rattle.lx_desk.proofs.CheckLine.{size_at}
use Rattle.lx_desk.proofs.check.put_size.Goals as goal

pub returns-in_err-put_counts : goal.returns-in_err-put_counts
returns-in_err-put_counts g c =
    Puts-is (Puts-stops (codes " skipped " ++
    (decimal c.args.loaded.now.skipped ++ (codes " first " ++ (decimal c.args.loaded.now.first_skipped ++ 10 ∷ []))))
    c.in_err-put_counts.ensures c.from_residual.ensures)
    (size_at _ _ (reading_of c.args.loaded.now) (ap length c.cues.ensures.cues) c.channels.ensures.channels)

pub returns : goal.returns
returns g c =
    Puts-is (Puts-then c.in_ok-put_counts.ensures c.put_skipped.ensures)
    (size_at _ _ (reading_of c.args.loaded.now) (ap length c.cues.ensures.cues) c.channels.ensures.channels)
