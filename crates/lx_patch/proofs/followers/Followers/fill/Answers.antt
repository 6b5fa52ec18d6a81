use Rattle.lx_patch.proofs.Imports.{arith, get_or_read}
use Rattle.lx_patch.proofs.Chains.{walk_begun, walk_next}
use Rattle.lx_patch.proofs.followers.Followers.fill.Goals as goal

pub loop-e-init : goal.loop-e-init
loop-e-init c =
    let chained = c.requires.linked.chained in
    walk_begun chained c.requires.place c.requires.slots
    (get_or_read _ c.args.k c.index.result.now (omega (arith, c.requires.place, chained.first_reach)) c.index.ensures 0)

pub loop-e-preserved : goal.loop-e-preserved
loop-e-preserved c =
    let chained = c.requires.linked.chained in
    walk_next chained c.scale.result c.loop-e.invariant c.loop-e-test.true c.scale.ensures
    (get_or_read _ c.loop-e.e c.index-in-loop-e.result.now (omega (arith, c.loop-e-test.true, chained.next_reach)) c.index-in-loop-e.ensures 0)
