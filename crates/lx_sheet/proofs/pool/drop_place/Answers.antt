use Rattle.lx_sheet.proofs.Imports.{List, length, ap, ◌∙◌, arith, IsStrictlySorted-filter, without, Place}
use Rattle.lx_sheet.proofs.RowPool.{pool_freed}
use Rattle.lx_sheet.proofs.pool.drop_place.Goals as goal

pub returns-in-Ok-clause-kept : goal.returns-in-Ok-clause-kept
returns-in-Ok-clause-kept c =
    let order : List Place = c.args.order.now.items in record {
      sorted = rw (c.remove-place.ensures.items ∙ without (λ (x : Place). x.cue) c.get.result c.as_slice.result.now order c.in-Ok.at
          c.requires.sorted c.as_slice.ensures.value c.in-Ok.ensures.stands) (IsStrictlySorted-filter (λ (x : Place). x.cue) _ order
          c.requires.sorted);
      pool = rw (c.remove-place.ensures.items, c.push_reserved.ensures.items) (pool_freed order c.args.free.now.items c.in-Ok.at
          c.remove-place.result
          (omega (arith, ap length c.as_slice.ensures.value, c.in-Ok.ensures.stands.within)) c.remove-place.ensures.value c.requires.pool);
      row_room = omega (arith, c.requires.row_room);
      free_room = omega (arith, c.requires.free_room);
    }

pub index_of-requires : goal.index_of-requires
index_of-requires c = rw c.as_slice.ensures.value c.requires.sorted

pub returns-in-Ok-clause-stands : goal.returns-in-Ok-clause-stands
returns-in-Ok-clause-stands c = rw (c.get.ensures.value, c.as_slice.ensures.value) at c.in-Ok.ensures.stands
