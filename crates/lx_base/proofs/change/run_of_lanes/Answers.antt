use Rattle.std.proofs.Common.{arith, sym, ◌∙◌, subst}
use lib.Count.{count_trailing_zeros}
use Rattle.lx_base.specs.Rows.{IsRun}
use Rattle.lx_base.proofs.Lanes.{mask_is, run_whole, run_first}
use Rattle.lx_base.proofs.change.run_of_lanes.Goals as goal

pub returns-then-changed-eq0 : goal.returns-then-changed-eq0
returns-then-changed-eq0 c =
    let mask = mask_is c.args.old.now c.args.new.now c.args.at c.requires.old c.requires.new in
    run_whole c.args.old.now c.args.new.now c.args.at c.requires.old c.requires.new (sym mask ∙ c.if-changed-eq0.true)

pub returns-else-changed-eq0 : goal.returns-else-changed-eq0
returns-else-changed-eq0 c =
    let mask = mask_is c.args.old.now c.args.new.now c.args.at c.requires.old c.requires.new in
    subst (λ m. IsRun c.args.old.now c.args.new.now c.args.at 32 (count_trailing_zeros 64 m)) (sym mask)
    (run_first c.args.old.now c.args.new.now c.args.at c.requires.old c.requires.new (omega (arith, mask, c.if-changed-eq0.false)))
