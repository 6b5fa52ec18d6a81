use Rattle.std.proofs.Common.{◌∙◌}
use Rattle.lx_base.specs.Numbers.{scaled}
use Rattle.lx_base.proofs.Lanes.{stored_below, stored_at, loaded}
use Rattle.lx_base.proofs.rows.scale_block.Goals as goal

pub returns-clause-before : goal.returns-clause-before
returns-clause-before c = λ k less. stored_below c.args.out.now c.scale_lanes.result c.args.at k less

pub returns-clause-block : goal.returns-clause-block
returns-clause-block c = λ k least less.
    stored_at c.args.out.now c.scale_lanes.result _ c.args.at k c.requires.out c.scale_lanes.ensures least less
    ∙ (λ i. scaled (loaded c.args.levels.now c.args.at k least less i) (loaded c.args.by.now c.args.at k least less i))
