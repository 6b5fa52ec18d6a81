use Rattle.lx_script.proofs.Imports.{[], ◌∷◌, Puts-then, Puts-stops, count_words}
use Rattle.lx_script.proofs.Texts.{frame_is}
use Rattle.lx_script.proofs.frame.put_frame.Goals as goal

pub returns-in_err-put_head : goal.returns-in_err-put_head
returns-in_err-put_head g c =
    rw (frame_is (count_words c.args.count) c.args.m c.args.universe c.args.slots.now)
    (Puts-stops _ c.in_err-put_head.ensures c.from_residual.ensures)

pub returns-in_err-put_cells : goal.returns-in_err-put_cells
returns-in_err-put_cells g c =
    rw (frame_is (count_words c.args.count) c.args.m c.args.universe c.args.slots.now)
    (Puts-then c.in_ok-put_head.ensures (Puts-stops (10 ∷ []) c.in_err-put_cells.ensures c.from_residual-in_err-put_cells.ensures))

pub returns : goal.returns
returns g c =
    rw (frame_is (count_words c.args.count) c.args.m c.args.universe c.args.slots.now)
    (Puts-then c.in_ok-put_head.ensures (Puts-then c.in_ok-put_cells.ensures c.put_all.ensures))
