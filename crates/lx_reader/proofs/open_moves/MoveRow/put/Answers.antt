use Rattle.lx_reader.proofs.Imports.{◌-◌, ◌∙◌, ap, arith, placed}
use Rattle.lx_reader.proofs.OpenMoves.{slot_written}
use Rattle.lx_reader.proofs.open_moves.MoveRow.put.Goals as goal

pub returns-clause-moves : goal.returns-clause-moves
returns-clause-moves c =
    slot_written 1 (c.get-number.result - 1) c.self.inside.moves c.self.inside.there _ c.self.invariant.numbered
    (omega (arith, c.get-number.ensures.least, c.get-number.ensures.most)) (omega arith)
    (omega (arith, c.get-number.ensures.value, c.get-number.ensures.least))
    ∙ ap (placed (λ m. m.chan) _) c.self.view_is
