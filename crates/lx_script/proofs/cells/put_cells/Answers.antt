use Rattle.lx_script.proofs.Imports.{Ok, arith, Puts-then, Puts-stops}
use Rattle.lx_script.proofs.Texts.{cells_split, cells_more}
use Rattle.lx_script.proofs.cells.put_cells.Goals as goal

pub loop-from-preserved : goal.loop-from-preserved
loop-from-preserved g c = record {
  within = omega arith;
  put = rw (cells_more c.args.levels.now c.loop-from.from c.piece_end-end.result (omega arith) (omega arith))
      (Puts-then {r = Ok tt} c.loop-from.invariant.put c.in_ok-put_piece.ensures);
}

pub returns-in_err-put_piece : goal.returns-in_err-put_piece
returns-in_err-put_piece g c =
    rw (
      cells_split c.args.levels.now c.piece_end-end.result (omega arith),
      cells_more c.args.levels.now c.loop-from.from c.piece_end-end.result (omega arith) (omega arith),
    )
    (Puts-stops _ (Puts-then c.loop-from.invariant.put c.in_err-put_piece.ensures) c.from_residual.ensures)
