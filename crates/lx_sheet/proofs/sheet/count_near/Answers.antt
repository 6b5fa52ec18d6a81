use Rattle.lx_sheet.proofs.Imports.{length, ap, arith, length-take, stands_where, up_to_absent, Place}
use Rattle.lx_sheet.proofs.Numbers.{count_there}
use Rattle.lx_sheet.proofs.sheet.count_near.Goals as goal

pub returns-then-get-clause-count : goal.returns-then-get-clause-count
returns-then-get-clause-count c = count_there c.requires
    (stands_where (λ (p : Place). p.cue) c.args.n c.args.order.now c.args.near.now c.index-order-before.result c.requires
    (omega (arith, c.if-before-order.true)) c.index-order-before.is (omega (
      arith,
      c.if-get.true,
      c.get.ensures.value,
      c.get-then-before-order.ensures.value,
      ap (λ (p : Place). p.cue) c.index-order-before.is,
    )))

pub returns-in-Ok-clause-count : goal.returns-in-Ok-clause-count
returns-in-Ok-clause-count c = count_there c.requires (rw c.get-2.ensures.value at c.in-Ok.ensures.stands)

pub returns-in-Err-clause-count : goal.returns-in-Err-clause-count
returns-in-Err-clause-count c = rw (← c.get-2.ensures.value) (omega (
  arith,
  ap length (up_to_absent (λ (p : Place). p.cue) c.get-2.result
      c.args.order.now c.in-Err.at c.requires c.in-Err.ensures.goes),
  length-take c.in-Err.at c.args.order.now,
  c.in-Err.ensures.goes.within,
))
