use Rattle.lx_levels.proofs.Imports.{◌<◌, length, ap, sym, ◌∙◌, arith, KeptLevels, inl}
use Rattle.lx_levels.proofs.UnderWay.{level_now}
use Rattle.lx_levels.proofs.levels.Levels.to_moment.Goals as goal

pub returns-then-m-self-clause-unchanged : goal.returns-then-m-self-clause-unchanged
returns-then-m-self-clause-unchanged c = λ is k within.
    let right = c.self.invariant.right.each k (rw (← c.self.view_is) at within) in
    rw (← c.self.view_is) (right.told.held.stays c.args.m (omega (arith, c.requires.later, ap (λ (v : KeptLevels). v.moment) c.self.view_is))
    (inl (omega (arith, c.if-m-self.true, right.due))) ∙ level_now right.told)

pub returns-clause-unchanged : goal.returns-clause-unchanged
returns-clause-unchanged c = λ is k within.
    let place : k < length c.self.inside.stacks = rw (← c.self.view_is) at within in
    rw (← c.self.view_is) (sym (level_now (c.advance.ensures.right.each k place).told) ∙ c.advance.ensures.unchanged is k place
    ∙ level_now (c.self.invariant.right.each k place).told)
