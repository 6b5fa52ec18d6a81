use Rattle.std.proofs.Common.{◌-◌, ◌<◌, arith, length, get_or, max, ap, ◌∙◌}
use Rattle.std.proofs.Math.ListN.{length-set}
use Rattle.lx_subs.proofs.RaisedLevels.{raised, within_reach}
use Rattle.lx_subs.proofs.contributions.raise_to.Goals as goal

pub loop-member-preserved : goal.loop-member-preserved
loop-member-preserved c = λ k within.
    let members = c.args.members.now in
    let contributions = c.loop-member.contributions in
    let member = c.member-item.result in
    let low : k < length contributions = omega (arith, length-set contributions (c.get.result - 1) c.max.result) in
    let reach = within_reach members (length c.args.contributions.now) c.loop-member.member-index member c.requires.each c.loop-member-test.true
    c.member-item.is in
    raised members c.loop-member.member-index c.args.fader c.get.result c.max.result member c.args.contributions.now contributions c.requires.sorted
    c.loop-member-test.true c.member-item.is c.loop-member.invariant c.get.ensures.value c.get.ensures.least
    (omega (arith, reach, c.get.ensures.value)) (c.max.ensures ∙ ap (λ l. max (get_or contributions (c.get.result - 1) 0) l) c.scale.ensures) k
    low
