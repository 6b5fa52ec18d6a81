use Rattle.lx_edit.proofs.CueLevels.{range_within}
use Rattle.lx_edit.proofs.MoveMarks.{set_outside}
use Rattle.lx_edit.proofs.PlacedMoves.{set_one}
use Rattle.lx_edit.proofs.levels.set.Goals as goal

pub with_levels-requires-clause-channels : goal.with_levels-requires-clause-channels
with_levels-requires-clause-channels g c = rw (c.channels.ensures.channels, c.as_slice.ensures.value, c.in_ok-members.ensures.items)
    (range_within c.args.level c.args.range c.in_ok-the_channels.ensures)

pub place-requires-clause-within : goal.place-requires-clause-within
place-requires-clause-within g c = rw (c.in_ok-cue.ensures.cue, c.as_slice.ensures.value, c.in_ok-members.ensures.items)
    (set_outside c.args.range c.args.level c.in_ok-part.part c.in_ok-old.old.now c.in_ok-the_channels.ensures.order)

pub returns-in-Some-clause-plan : goal.returns-in-Some-clause-plan
returns-in-Some-clause-plan g c =
    set_one c.args.show.now c.args.n c.args.level c.in_ok-old.old.now c.args.part c.in_ok-part.part c.args.range c.args.only c.in-Some.entry
    c.in_ok-old.ensures c.in_ok-part.ensures c.in_ok-the_channels.ensures c.in-Some.ensures.one
    c.in-Some.ensures.entry c.in-Some.ensures.chan c.in-Some.ensures.level c.in-Some.ensures.there c.in-Some.ensures.apart
