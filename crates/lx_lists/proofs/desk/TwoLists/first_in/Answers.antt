use Rattle.lx_lists.proofs.KeptLists.{first_kept}
use Rattle.lx_lists.proofs.desk.TwoLists.first_in.Goals as goal

pub follow-requires : goal.follow-requires
follow-requires g c = record {
  before = c.self.inside.first;
  channels = c.self.invariant.channels;
  filled = c.self.invariant.filled;
  changes = c.in_ok-change.ensures.changes;
}

pub invariant_of-self-2 : goal.invariant_of-self-2
invariant_of-self-2 g c = first_kept c.in_ok-change.change c.self.invariant c.in_ok-change.ensures.answers
    c.in_ok-change.ensures.changes (c.in_ok-change.ensures.moment c.requires.taken) c.follow.ensures
