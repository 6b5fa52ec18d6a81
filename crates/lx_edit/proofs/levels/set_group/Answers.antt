use Rattle.lx_edit.proofs.CueLevels.{proportion_within}
use Rattle.lx_edit.proofs.MoveMarks.{valid_outside}
use Rattle.lx_edit.proofs.levels.set_group.Goals as goal

pub with_levels-requires-clause-channels : goal.with_levels-requires-clause-channels
with_levels-requires-clause-channels g c =
    let group = c.in_ok-the_group.field-0.now in
    rw (c.channels.ensures.channels, c.as_slice.ensures.value, rw c.in_ok-the_group.ensures.group at c.in_ok-members.ensures.items)
    (proportion_within c.args.level c.args.show.now.channels group.members c.in_ok-the_group.ensures.valid.members.each)

pub place-requires-clause-within : goal.place-requires-clause-within
place-requires-clause-within g c = rw c.all_channels.ensures
    (valid_outside c.args.show.now.channels c.in_ok-old.old.now c.in_ok-cue.cue c.channels.ensures.valid.channels.most c.in_ok-old.ensures.valid
    (rw c.channels.ensures.channels at c.in_ok-cue.ensures.valid))
