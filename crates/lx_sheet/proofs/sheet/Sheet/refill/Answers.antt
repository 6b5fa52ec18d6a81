use Rattle.lx_sheet.proofs.Imports.{◌-◌, List, length, ap, ◌∙◌, arith, length_refill, CUES, Cue, Sheet, placed_from}
use Rattle.lx_sheet.proofs.ListedRows.{block_listed, IsStrictlySorted-placed_from, listed_places, listed_pool}
use Rattle.lx_sheet.proofs.MarkedRows.{marks_reached, stands_of}
use Rattle.lx_sheet.proofs.sheet.Sheet.refill.Goals as goal

pub invariant_of-self : goal.invariant_of-self
invariant_of-self c =
    let cues : List Cue = c.cues-cues.result.now in
    let long = rw (ap length c.deref_mut.ensures.value ∙ c.self.invariant.look_room) at c.fill_all.ensures.length in
    let pool = listed_pool c.list_cues.new.order.items c.list_free.new.free.items cues (CUES - length cues) c.list_cues.ensures.order
    c.list_free.ensures.free (omega (arith, ap length c.cues-cues.ensures.cues, c.cues-cues.ensures.valid.few_cues)) in record {
      kept = record {
        sorted = rw (c.list_cues.ensures.order, c.cues-cues.ensures.cues)
            (IsStrictlySorted-placed_from 0 c.args.show.now.cues c.cues-cues.ensures.valid.cues_sorted);
        pool = pool;
        row_room = omega (arith, c.list_cues.ensures.room, c.self.invariant.kept.row_room);
        free_room = omega (arith, c.list_free.ensures.room, c.self.invariant.kept.free_room);
      };
      block = block_listed cues c.self.invariant.block.few pool c.list_cues.ensures.order (omega (arith, long));
      level_room = omega (arith, c.fill_all.ensures.room, c.self.invariant.level_room);
      look_room = omega (arith, length_refill c.self.inside.look.len c.self.inside.look.items c.fill_all.new.look (omega arith));
      marked = marks_reached (length cues) c.self.invariant.marked c.fill_all.ensures.table c.fill_all.ensures.reach long;
    }

pub returns : goal.returns
returns c =
    let width = ap length c.deref_mut.ensures.value ∙ c.self.invariant.look_room in
    stands_of (listed_places (ap (λ (s : Sheet). s.channels) c.self.view_is ∙ c.requires)
    (c.list_cues.ensures.order ∙ ap (placed_from 0) c.cues-cues.ensures.cues) c.cues-cues.ensures.valid.cues_sorted
    (rw (c.cues-cues.ensures.cues, width) at c.fill_all.ensures.levels) (rw (c.cues-cues.ensures.cues, width) at c.fill_all.ensures.marks))
