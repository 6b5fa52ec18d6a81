use Rattle.lx_levels.proofs.Imports.{refl, arith}
use Rattle.lx_levels.proofs.UnderWay.{opened_right}
use Rattle.lx_levels.proofs.levels.Levels.open_in.Goals as goal

pub invariant_of-result : goal.invariant_of-result
invariant_of-result g c = record {
  right = opened_right (record {
    few = omega (arith, c.channels-channels.ensures.channels, c.channels-channels.ensures.valid.channels.most);
    of_currents = c.in_ok-filled.ensures.long;
    of_levels = c.in_ok-filled-2.ensures.long;
    of_holds = c.in_ok-filled-3.ensures.long;
  }) c.in_ok-open.ensures.reach c.in_ok-filled-2.ensures.items c.in_ok-filled-3.ensures.items refl c.in_ok-open.ensures.empty;
  room = c.in_ok-filled-4.ensures.long;
  acts_room = c.in_ok-filled-5.ensures.long;
}
