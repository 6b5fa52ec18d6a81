use Rattle.lx_show.proofs.Imports.{◌≤◌, ap, arith, length, CUES, ValidCue}
use Rattle.lx_show.proofs.StoredShows.{All-exchanged, few_exchanged, room_for_cue}
use Rattle.lx_show.proofs.show.Show.exchange_cue.Goals as goal

pub exchange_in_room-requires-clause-room : goal.exchange_in_room-requires-clause-room
exchange_in_room-requires-clause-room c =
    room_for_cue _ c.args.to c.self.invariant.valid c.self.invariant.cue_room c.self.view_is c.requires.number c.requires.room

pub invariant_of-self : goal.invariant_of-self
invariant_of-self c =
    let all = All-exchanged ValidCue _ _ _ c.args.to c.self.view_is c.requires.valid c.exchange_in_room.ensures.items c.self.invariant.valid.cues in
    let few : length c.exchange_in_room.new.xs.items ≤ CUES = omega (
      arith,
      ap length c.exchange_in_room.ensures.items,
      few_exchanged c.args.n c.get.result c.args.to c.self.invariant.valid c.self.view_is c.requires.number c.requires.room,
    ) in search arith

pub returns-clause-after : goal.returns-clause-after
returns-clause-after c = (invariant_of-self c).valid
