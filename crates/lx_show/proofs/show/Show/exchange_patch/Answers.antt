use Rattle.lx_show.proofs.Imports.{arith, ValidPatchRow}
use Rattle.lx_show.proofs.StoredShows.{All-exchanged, room_for}
use Rattle.lx_show.proofs.show.Show.exchange_patch.Goals as goal

pub exchange_in_room-requires-clause-room : goal.exchange_in_room-requires-clause-room
exchange_in_room-requires-clause-room c =
    let valid = c.self.invariant.valid in
    room_for ValidPatchRow _ (λ x. x.dimmer) c.args.to (λ x h. h.dimmer) c.self.view_is c.requires.valid valid.patch valid.patch_sorted c.self.invariant.patch_room

pub invariant_of-self : goal.invariant_of-self
invariant_of-self c =
    let all = All-exchanged ValidPatchRow _ _ _ c.args.to c.self.view_is c.requires.valid c.exchange_in_room.ensures.items c.self.invariant.valid.patch in
    search arith
