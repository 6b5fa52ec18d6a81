use Rattle.lx_sheet.proofs.Imports.{◌≡◌, ℕ, ◌+◌, ◌-◌, List, set, drop, subst, arith, Move, level_in_look}
use Rattle.lx_sheet.proofs.Moves.{level_placed, move_placed, whole_row}
use Rattle.lx_sheet.proofs.look.place_whole.Goals as goal

pub loop-i-preserved : goal.loop-i-preserved
loop-i-preserved c =
    let moves : List Move = c.args.moves.now in
    let i : ℕ = c.loop-i.i in
    let m : Move = c.index-moves-i.result in
    let here : i + 1 - 1 ≡ i = omega arith in
    subst (λ n. (x : ℕ) → level_placed (drop (i + 1) moves) x (level_in_look (set c.loop-i.look n m.level) x)
    ≡ level_placed moves x (level_in_look c.args.look.now x)) here
    (move_placed moves c.loop-i.look c.args.look.now i (i + 1) m c.requires.sorted c.loop-i-test.true c.index-moves-i.is
    (whole_row moves _ i m c.requires.sorted c.requires.within c.requires.whole c.loop-i-test.true c.index-moves-i.is)
    (omega arith) (omega arith) c.loop-i.invariant)
