use Rattle.lx_sheet.proofs.Imports.{◌∙◌, length, refl, arith}
use Rattle.lx_sheet.proofs.RightRows.{right_on}
use Rattle.lx_sheet.proofs.block.fill_removed.Goals as goal

pub returns-else-not-holds : goal.returns-else-not-holds
returns-else-not-holds c = λ left.
    let held = rw c.recall.auto.look at (c.holds.ensures c.if-not-holds.false) in
    record {
      front = λ k x less within. refl;
      rows = λ start follows k chan least within.
          right_on (length c.args.look.now) c.args.order.now c.args.cues.now c.args.levels.now c.args.at c.args.at chan follows
          (omega arith)
          (left (λ x. held x ∙ c.recall.ensures x ∙ start x) chan (omega arith)) k least within;
    }
