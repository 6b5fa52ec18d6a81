use Rattle.lx_writer.proofs.Imports.{◌∙◌, arith, ◌==◌, filter, flat_map, Move, move_text}
use Rattle.lx_writer.proofs.TextPieces.{lines_shifted, without_word}
use Rattle.lx_writer.proofs.lines.write_lines.Goals as goal

pub returns-clause-text : goal.returns-clause-text
returns-clause-text c =
    let kept = filter (λ (entry : Move). entry.part == c.args.part) c.args.moves.now in
    without_word c.write_some.result c.write_some.new.text (flat_map move_text kept) (omega (arith, c.write_some.array_long))
    (c.write_some.ensures.text ∙ c.loop-four.invariant.text ∙ lines_shifted kept)
