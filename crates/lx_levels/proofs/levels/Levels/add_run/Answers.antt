use Rattle.lx_levels.proofs.UnderWay.{right_but, elsewhere}
use Rattle.lx_levels.proofs.levels.Levels.add_run.Goals as goal

pub refresh-requires : goal.refresh-requires
refresh-requires c =
    right_but _ c.self.invariant.right (rw (← c.self.view_is) at c.requires.within) c.push_act.ensures.others

pub invariant_of-self : goal.invariant_of-self
invariant_of-self c = record { right = c.refresh.ensures; room = c.self.invariant.room; acts_room = c.self.invariant.acts_room }

pub returns-clause-others : goal.returns-clause-others
returns-clause-others c = rw (← c.self.view_is) (elsewhere _ c.push_act.ensures.others)
