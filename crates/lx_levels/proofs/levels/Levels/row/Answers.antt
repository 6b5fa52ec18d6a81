use Rattle.lx_levels.proofs.Imports.{◌≡◌, ◌<◌, length, ap, ◌∙◌, arith, KeptLevels}
use Rattle.lx_levels.proofs.Stands.{kept_level}
use Rattle.lx_levels.proofs.UnderWay.{level_now}
use Rattle.lx_levels.proofs.levels.Levels.row.Goals as goal

pub returns-clause-levels : goal.returns-clause-levels
returns-clause-levels c = λ k within.
    let place : k < length c.self.inside.stacks = rw (← c.self.view_is) at within in
    rw (c.as_slice.ensures.value, ← c.self.view_is) (level_now (c.self.invariant.right.each k place).told)

pub returns-clause-stands : goal.returns-clause-stands
returns-clause-stands c = λ show p stands.
    let reach : length c.self.inside.stacks ≡ show.channels = ap (λ (v : KeptLevels). length v.stacks) c.self.view_is ∙ stands.reach in
    record {
      reach = ap length c.as_slice.ensures.value ∙ c.self.invariant.right.reaches.of_levels ∙ reach;
      each = λ k within. returns-clause-levels c k (omega (arith, within, stands.reach))
          ∙ kept_level show p c.args.self.now k stands within;
    }
