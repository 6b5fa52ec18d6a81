use Rattle.lx_levels.proofs.Imports.{get_or, refl, no_stack, arith, ap, IsWritten, Place}
use Rattle.lx_levels.proofs.UnderWay.{refreshed, told_here, written_here}
use Rattle.lx_levels.proofs.motion.Motion.refresh.Goals as goal

pub returns : goal.returns
returns c =
    let current = c.governing-current in
    let held = c.held-held in
    let is : IsWritten c.args.k c.args.self.now _ = record {
      place = record { current = current.result; level = held.result.level; hold = held.result.until };
      currents = refl;
      levels = refl;
      holds = refl;
    } in
    refreshed is c.requires
    (told_here is c.requires.reaches c.requires.within current.ensures.governs
    (held.ensures.stays (get_or c.args.stacks.now c.args.k no_stack) current.ensures.governs) held.ensures.later) (omega arith)
    (omega (arith, ap (λ (p : Place). p.hold) (written_here is c.requires.reaches c.requires.within)))
