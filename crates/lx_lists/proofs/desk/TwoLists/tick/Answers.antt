use Rattle.lx_lists.proofs.Imports.{◌∙◌, sym}
use Rattle.lx_lists.proofs.KeptLists.{both_channels, both_tick, same_outputs, filled_still, ticked_kept}
use Rattle.lx_lists.proofs.desk.TwoLists.tick.Goals as goal

pub refill-requires-clause-channels : goal.refill-requires-clause-channels
refill-requires-clause-channels c = both_channels c.self.inside.first c.self.inside.second c.tick.new.self c.tick-2.new.self
    c.self.invariant.channels c.in_ok-first.ensures.show c.in-Ok.ensures.show

pub unreachable-requires : goal.unreachable-requires
unreachable-requires c =
    let k = c.self.inside in
    let desks = c.self.invariant.desks in
    let stand = c.self.invariant.stand in
    both_tick desks.first desks.second k.first k.second c.tick.new.self c.in_default.field-0 stand.first stand.second
    c.self.invariant.moments
    (c.in_ok-first.ensures.obeys desks.first stand.first).ok
    (c.in_default.ensures.obeys desks.second stand.second).err

pub invariant_of-self-then-not-is_nothing : goal.invariant_of-self-then-not-is_nothing
invariant_of-self-then-not-is_nothing c = ticked_kept c.self.invariant c.in_ok-first.ensures.obeys c.in-Ok.ensures.obeys
    c.in_ok-first.ensures.show c.in-Ok.ensures.show c.in_ok-first.ensures.moment c.in-Ok.ensures.moment c.refill.ensures

pub invariant_of-self-else-not-is_nothing-2 : goal.invariant_of-self-else-not-is_nothing-2
invariant_of-self-else-not-is_nothing-2 c = ticked_kept c.self.invariant c.in_ok-first.ensures.obeys c.in-Ok.ensures.obeys
    c.in_ok-first.ensures.show c.in-Ok.ensures.show c.in_ok-first.ensures.moment c.in-Ok.ensures.moment
    (filled_still c.self.invariant.channels c.self.invariant.filled
    (same_outputs c.in_ok-first.first (sym c.is_nothing.ensures ∙ c.if-not-is_nothing.false) c.in_ok-first.ensures.changes)
    (same_outputs c.in-Ok.second (sym c.is_nothing-else-not-is_nothing.ensures ∙ c.if-not-is_nothing-2.false) c.in-Ok.ensures.changes))
