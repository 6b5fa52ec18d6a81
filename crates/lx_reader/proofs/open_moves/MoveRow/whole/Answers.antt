use Rattle.lx_reader.proofs.Imports.{◌≤◌, ◌∙◌, arith, subst, sym, AllByRecursion, IsStrictlySorted, each}
use Rattle.lx_reader.proofs.OpenMoves.{all_there, moves_rise}
use Rattle.lx_reader.proofs.open_moves.MoveRow.whole.Goals as goal

pub returns-then-are_there-clause-moves : goal.returns-then-are_there-clause-moves
returns-then-are_there-clause-moves c =
    all_there 1 c.args.count c.self.inside.moves c.self.inside.there c.self.invariant.numbered (omega (arith, c.requires.most, c.self.invariant.all))
    (omega (arith, c.self.invariant.all, c.self.invariant.long))
    (c.are_there.ensures c.if-are_there.true)
    (each _ _ _ (λ m h. omega (arith, h)) (subst (AllByRecursion (λ m. m.chan ≤ c.args.count)) (sym c.self.view_is) c.requires.within))
    ∙ c.self.view_is

pub returns-then-are_there-clause-rise : goal.returns-then-are_there-clause-rise
returns-then-are_there-clause-rise c = subst (IsStrictlySorted (λ m. m.chan)) c.self.view_is
    (moves_rise 1 c.self.inside.moves c.self.inside.there c.self.invariant.numbered)

pub returns-else-are_there-clause-rise : goal.returns-else-are_there-clause-rise
returns-else-are_there-clause-rise c = subst (IsStrictlySorted (λ m. m.chan)) c.self.view_is
    (moves_rise 1 c.self.inside.moves c.self.inside.there c.self.invariant.numbered)
