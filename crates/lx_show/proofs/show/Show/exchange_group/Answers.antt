use Rattle.lx_show.proofs.Imports.{arith, ValidGroup}
use Rattle.lx_show.proofs.StoredShows.{All-exchanged, room_for}
use Rattle.lx_show.proofs.show.Show.exchange_group.Goals as goal

pub exchange_in_room-requires-clause-room : goal.exchange_in_room-requires-clause-room
exchange_in_room-requires-clause-room c =
    let valid = c.self.invariant.valid in
    room_for ValidGroup _ (λ x. x.number) c.args.to (λ x h. h.number) c.self.view_is c.requires.valid valid.groups valid.groups_sorted c.self.invariant.group_room

pub invariant_of-self : goal.invariant_of-self
invariant_of-self c =
    let all = All-exchanged ValidGroup _ _ _ c.args.to c.self.view_is c.requires.valid c.exchange_in_room.ensures.items c.self.invariant.valid.groups in
    search arith
