use Rattle.lx_levels.proofs.Imports.{get_or, refl, no_stack}
use Rattle.lx_levels.proofs.UnderWay.{told_here}
use Rattle.lx_levels.proofs.motion.Motion.bring_on.Goals as goal

pub returns-clause-others : goal.returns-clause-others
returns-clause-others c = record {
  place = record { current = c.wake.new.current; level = c.held-held.result.level; hold = c.held-held.result.until };
  currents = refl;
  levels = refl;
  holds = refl;
}

pub returns-clause-told : goal.returns-clause-told
unfolding returns-clause-others
returns-clause-told c = told_here (returns-clause-others c) c.requires.reaches c.requires.within c.wake.ensures.governs
    (c.held-held.ensures.stays (get_or c.args.stacks.now c.args.k no_stack) c.wake.ensures.governs) c.held-held.ensures.later
