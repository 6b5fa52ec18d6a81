use Rattle.lx_levels.proofs.Imports.{◌+◌, ◌*◌, add-one, arith, refl, get_or-set_same, no_fade}
use Rattle.lx_levels.proofs.Columns.{column_apart}
use Rattle.lx_levels.proofs.racks.write.Goals as goal

pub returns-clause-here : goal.returns-clause-here
returns-clause-here c = rw (
  add-one,
  get_or-set_same c.grow.new.block.items (c.args.kept * c.args.channels + c.args.k) c.args.fade no_fade
      (omega (arith, c.grow.ensures.end, c.requires.within)),
  column_apart c.args.block.now.items c.grow.new.block.items c.args.channels c.args.k c.args.kept c.args.fade c.args.k c.args.kept
      c.requires.within c.grow.ensures.same c.requires.within (λ j below same. absurd (omega (arith, below, same))),
) refl

pub returns-clause-others : goal.returns-clause-others
returns-clause-others c = λ i n less other.
    column_apart c.args.block.now.items c.grow.new.block.items c.args.channels c.args.k c.args.kept c.args.fade i n c.requires.within
    c.grow.ensures.same less (λ _ _ _. other)
