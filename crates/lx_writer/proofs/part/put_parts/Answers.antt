use Rattle.lx_writer.proofs.Imports.{sym, Puts-then, Puts-stops, Puts-is, part_text}
use Rattle.lx_writer.proofs.TextPieces.{pieces_more, pieces_around}
use Rattle.lx_writer.proofs.part.put_parts.Goals as goal

pub loop-part-preserved : goal.loop-part-preserved
loop-part-preserved g c =
    Puts-is (Puts-then c.loop-part.invariant c.in_ok-put_part.ensures)
    (pieces_more (part_text c.args.moves.now) c.args.parts.now c.loop-part.part-index c.part-item.result c.loop-part-test.true
    c.part-item.is)

pub returns-in_err-put_part : goal.returns-in_err-put_part
returns-in_err-put_part g c =
    Puts-is (Puts-stops _ (Puts-then c.loop-part.invariant c.in_err-put_part.ensures) c.from_residual.ensures)
    (sym (pieces_around (part_text c.args.moves.now) c.args.parts.now c.loop-part.part-index c.part-item.result c.loop-part-test.true
    c.part-item.is))
