use Rattle.lx_lists.proofs.Imports.{◌∙◌, sym}
use Rattle.lx_lists.proofs.KeptLists.{same_channels, same_outputs, as_before, filled_still, second_kept, second_no_tick}
use Rattle.lx_lists.proofs.desk.TwoLists.second_in.Goals as goal

pub refill-requires-clause-channels : goal.refill-requires-clause-channels
refill-requires-clause-channels g c =
    same_channels c.in_ok-change.change c.self.inside.second c.command_in.new.self c.in_ok-change.ensures.changes ∙ c.self.invariant.channels

pub invariant_of-self-then-not-is_nothing : goal.invariant_of-self-then-not-is_nothing
invariant_of-self-then-not-is_nothing g c = second_kept c.in_ok-change.change c.self.invariant c.in_ok-change.ensures.answers
    c.in_ok-change.ensures.changes (c.in_ok-change.ensures.moment (second_no_tick c.args.command.now c.requires.taken)) c.refill.ensures

pub invariant_of-self-else-not-is_nothing : goal.invariant_of-self-else-not-is_nothing
invariant_of-self-else-not-is_nothing g c = second_kept c.in_ok-change.change c.self.invariant c.in_ok-change.ensures.answers
    c.in_ok-change.ensures.changes (c.in_ok-change.ensures.moment (second_no_tick c.args.command.now c.requires.taken))
    (filled_still c.self.invariant.channels c.self.invariant.filled (as_before c.self.inside.first)
    (same_outputs c.in_ok-change.change (sym c.is_nothing.ensures ∙ c.if-not-is_nothing.false) c.in_ok-change.ensures.changes))
