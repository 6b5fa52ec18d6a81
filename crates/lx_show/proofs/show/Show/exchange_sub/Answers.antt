use Rattle.lx_show.proofs.Imports.{arith, ValidSub}
use Rattle.lx_show.proofs.StoredShows.{All-exchanged, room_for}
use Rattle.lx_show.proofs.show.Show.exchange_sub.Goals as goal

pub exchange_in_room-requires-clause-room : goal.exchange_in_room-requires-clause-room
exchange_in_room-requires-clause-room c =
    let valid = c.self.invariant.valid in
    room_for ValidSub _ (λ x. x.number) c.args.to (λ x h. h.number) c.self.view_is c.requires.valid valid.subs valid.subs_sorted c.self.invariant.sub_room

pub invariant_of-self : goal.invariant_of-self
invariant_of-self c =
    let all = All-exchanged ValidSub _ _ _ c.args.to c.self.view_is c.requires.valid c.exchange_in_room.ensures.items c.self.invariant.valid.subs in
    search arith
