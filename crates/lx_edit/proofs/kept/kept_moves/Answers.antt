use Rattle.lx_edit.proofs.Imports.{◌-◌, ◌∙◌, refl, arith, not, ◌==◌, option_copied, tracked, changed_show}
use Rattle.lx_edit.proofs.CueLevels.{chosen_next}
use Rattle.lx_edit.proofs.KeptLevels.{none_kept, outside_high, outside_low}
use Rattle.lx_edit.proofs.kept.kept_moves.Goals as goal

pub loop-k-init : goal.loop-k-init
loop-k-init g c = record {
  items = c.new-moves.ensures.items
      ∙ none_kept (option_copied c.args.new) c.args.within 0 (c.min-first.result - 1) c.requires.there c.requires.number c.requires.above
      c.requires.within (omega arith) (omega arith) (λ x low high. outside_low c.args.within x (omega arith));
  count = refl;
}

pub loop-k-preserved : goal.loop-k-preserved
loop-k-preserved g c =
    let show = c.args.show.now in
    let above = c.args.above.now in
    let after = changed_show show c.args.n (option_copied c.args.new) in
    record {
      items = chosen_next (λ x. not (tracked show above.number x == tracked after above.number x)) (λ x. tracked show above.number x)
          (omega arith) c.loop-k.invariant.items c.channel-c.ensures c.kept_level-level.ensures c.in_ok-add.ensures.items;
      count = c.in_ok-add.ensures.cause.kept ∙ c.loop-k.invariant.count;
    }

pub returns-clause-items : goal.returns-clause-items
returns-clause-items g c = c.loop-k.invariant.items
    ∙ none_kept (option_copied c.args.new) c.args.within (c.loop-k.k - 1) c.args.show.now.channels c.requires.there c.requires.number
    c.requires.above c.requires.within (omega arith) (omega arith) (λ x low high. outside_high c.args.within x (omega arith))
