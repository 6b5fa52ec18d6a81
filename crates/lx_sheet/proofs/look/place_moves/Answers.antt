use Rattle.lx_sheet.proofs.Imports.{length, sym, subst, arith, All-from_recursion, Move, InRange}
use Rattle.lx_sheet.proofs.Moves.{move_placed}
use Rattle.lx_sheet.proofs.look.place_moves.Goals as goal

pub loop-i-preserved : goal.loop-i-preserved
loop-i-preserved c =
    let within : InRange (length c.args.look.now) c.index-moves-i.result.chan =
    subst (λ (m : Move). InRange (length c.args.look.now) m.chan) (sym c.index-moves-i.is)
    (All-from_recursion (λ m. InRange (length c.args.look.now) m.chan) c.args.moves.now c.requires.within c.loop-i.i
    c.index-moves-i.result (omega arith)) in
    move_placed c.args.moves.now c.loop-i.look c.args.look.now c.loop-i.i c.get.result c.index-moves-i.result c.requires.sorted
    (omega arith) c.index-moves-i.is c.get.ensures.value c.get.ensures.least (omega (arith, within.most)) c.loop-i.invariant
