use Rattle.lx_show.proofs.Imports.{◌∙◌, ap, arith, length, Some, sym, length-insert}
use Rattle.lx_show.proofs.Indexes.{absent, added, placed_sorted, replaced, stood}
use Rattle.lx_show.proofs.sorted.put_in_room.Goals as goal

pub returns-in-Ok-clause-replaced : goal.returns-in-Ok-clause-replaced
returns-in-Ok-clause-replaced g c = ap Some c.replace.ensures.value
    ∙ sym (stood c.args.x c.key.ensures c.as_slice.ensures.value c.in-Ok.ensures.stands c.index_mut.ensures.value)

pub returns-in-Ok-clause-items : goal.returns-in-Ok-clause-items
returns-in-Ok-clause-items g c = rw c.replace.ensures.after (replaced c.args.x c.key.ensures c.as_slice.ensures.value c.in-Ok.ensures.stands)

pub returns-in-Ok-clause-sorted : goal.returns-in-Ok-clause-sorted
returns-in-Ok-clause-sorted g c = placed_sorted _ c.args.x _ (returns-in-Ok-clause-items g c) c.requires.sorted

pub insert_in_room-requires-clause-room : goal.insert_in_room-requires-clause-room
insert_in_room-requires-clause-room g c =
    let more = added c.args.x c.key.ensures c.as_slice.ensures.value c.in-Err.ensures.goes in
    omega (arith, ap length more, length-insert c.args.xs.now.items c.in-Err.at c.args.x (omega (arith, ap length c.as_slice.ensures.value, c.in-Err.ensures.goes.within)))

pub returns-in-Err-clause-replaced : goal.returns-in-Err-clause-replaced
returns-in-Err-clause-replaced g c = absent c.args.x c.key.ensures c.as_slice.ensures.value c.in-Err.ensures.goes

pub returns-in-Err-clause-items : goal.returns-in-Err-clause-items
returns-in-Err-clause-items g c = c.insert_in_room.ensures.items ∙ added c.args.x c.key.ensures c.as_slice.ensures.value c.in-Err.ensures.goes

pub returns-in-Err-clause-sorted : goal.returns-in-Err-clause-sorted
returns-in-Err-clause-sorted g c = placed_sorted _ c.args.x _ (returns-in-Err-clause-items g c) c.requires.sorted
