use Rattle.lx_show.proofs.Imports.{arith, length-drop, take}
use Rattle.lx_show.proofs.Stretches.{IsStrictlySorted-all_placed, rest_of_slice, rest_placed}
use Rattle.lx_show.proofs.stretch.put_each.Goals as goal

pub loop-rest-preserved : goal.loop-rest-preserved
loop-rest-preserved g c =
    let rest = c.loop-rest.rest.now in
    let k = c.put_front-count.result in
    let placed = c.put_front-count.ensures in
    let same = rest_of_slice k rest placed.most in
    record {
      items = rest_placed g.T.Keyed.key k rest c.loop-rest.xs.items _ _ placed.items c.loop-rest.invariant.items placed.most;
      sorted = rw placed.items (IsStrictlySorted-all_placed _ (take k rest) c.loop-rest.xs.items c.loop-rest.invariant.sorted);
      room = rw same (omega (arith, length-drop k rest, placed.room));
    }
