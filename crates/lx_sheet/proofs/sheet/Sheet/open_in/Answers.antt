use Rattle.lx_sheet.proofs.Imports.{◌≡◌, ◌-◌, [], length, ap, arith, rules, CUES}
use Rattle.lx_sheet.proofs.ListedRows.{block_listed, listed_pool}
use Rattle.lx_sheet.proofs.sheet.Sheet.open_in.Goals as goal

pub invariant_of-sheet : goal.invariant_of-sheet
invariant_of-sheet g c =
    let none : c.in_ok-room.field-0.items ≡ [] = c.in_ok-room.ensures.items in
    let pool = listed_pool c.in_ok-room.field-0.items c.list_free.new.free.items [] (CUES - 0) none c.list_free.ensures.free
    (omega arith) in record {
      kept = record { sorted = rw none tt; pool = pool; row_room = search rules; free_room = search rules };
      block = block_listed [] (omega (arith, c.channels-channels.ensures.channels, c.channels-channels.ensures.valid.channels.most)) pool
          none
          (omega arith);
      level_room = search rules;
      look_room = c.in_ok-filled.ensures.long;
      marked = record {
        table = c.in_ok-open.ensures.table;
        reached = λ r within. absurd (omega (arith, within, ap length c.in_ok-room-2.ensures.items));
      };
    }
