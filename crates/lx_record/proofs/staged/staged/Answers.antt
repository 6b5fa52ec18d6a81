use Rattle.lx_record.proofs.Imports.{level_now}
use Rattle.lx_record.proofs.ChosenChannels.{untracked_within}
use Rattle.lx_record.proofs.staged.staged.Goals as goal

pub with_levels-requires-clause-channels : goal.with_levels-requires-clause-channels
with_levels-requires-clause-channels g c =
    rw (c.channels.ensures.channels, c.show-show.ensures, c.as_slice.ensures.value, c.in_ok-members.ensures.members)
    (untracked_within (level_now c.args.console.now) c.args.console.now.show c.args.n)

pub with_levels-requires-in-None-clause-channels : goal.with_levels-requires-in-None-clause-channels
with_levels-requires-in-None-clause-channels g c =
    rw (c.channels-in-None.ensures.channels, c.show-show.ensures, c.as_slice-in-None.ensures.value, c.in_ok-members.ensures.members)
    (untracked_within (level_now c.args.console.now) c.args.console.now.show c.args.n)
