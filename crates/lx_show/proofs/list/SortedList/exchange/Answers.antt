use Rattle.lx_show.proofs.Imports.{arith, length-placed_there}
use Rattle.lx_show.proofs.list.SortedList.exchange.Goals as goal

pub put_in_room-requires-clause-room : goal.put_in_room-requires-clause-room
put_in_room-requires-clause-room g c = omega (
  arith,
  length-placed_there g.T.Keyed.key c.args.entry c.self.inside.entries.items
      (rw c.self.view_is c.requires),
)
