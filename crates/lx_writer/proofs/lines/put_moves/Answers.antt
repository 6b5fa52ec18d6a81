use Rattle.lx_writer.proofs.Imports.{Ok, arith, ◌==◌, Puts-then, Puts-stops, Move, move_text}
use Rattle.lx_writer.proofs.TextPieces.{kept_split, kept_more}
use Rattle.lx_writer.proofs.lines.put_moves.Goals as goal

pub loop-from-preserved : goal.loop-from-preserved
loop-from-preserved g c = record {
  within = omega arith;
  put = rw (kept_more (λ (entry : Move). entry.part == c.args.part) move_text c.args.moves.now c.loop-from.from c.min-end.result
      (omega arith))
      (Puts-then {r = Ok tt} c.loop-from.invariant.put c.in_ok-put_piece.ensures);
}

pub returns-in_err-put_piece : goal.returns-in_err-put_piece
returns-in_err-put_piece g c =
    rw (
      kept_split (λ (entry : Move). entry.part == c.args.part) move_text c.args.moves.now c.min-end.result,
      kept_more (λ (entry : Move). entry.part == c.args.part) move_text c.args.moves.now c.loop-from.from c.min-end.result (omega arith),
    )
    (Puts-stops _ (Puts-then c.loop-from.invariant.put c.in_err-put_piece.ensures) c.from_residual.ensures)
