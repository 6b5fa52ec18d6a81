use Rattle.lx_levels.proofs.UnderWay.{right_but}
use Rattle.lx_levels.proofs.levels.Levels.restart.Goals as goal

pub refresh-requires : goal.refresh-requires
refresh-requires c = right_but _ c.self.invariant.right (rw (← c.self.view_is) at c.requires) c.restart.ensures

pub invariant_of-self : goal.invariant_of-self
invariant_of-self c = record { right = c.refresh.ensures; room = c.self.invariant.room; acts_room = c.self.invariant.acts_room }
