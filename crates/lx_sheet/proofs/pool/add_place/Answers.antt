use Rattle.lx_sheet.proofs.Imports.{arith, Place, sorted_added}
use Rattle.lx_sheet.proofs.RowPool.{pool_taken}
use Rattle.lx_sheet.proofs.pool.add_place.Goals as goal

pub returns-in-Ok-insert-clause-kept : goal.returns-in-Ok-insert-clause-kept
returns-in-Ok-insert-clause-kept c =
    let p : Place = record { cue = c.args.n; row = c.in_ok-row-in-Err.row } in record {
      sorted = rw c.in-Ok-insert.ensures.items (sorted_added (λ (x : Place). x.cue) c.get.result c.as_slice.result.now
          c.args.order.now.items p c.in-Err.at
          c.get.ensures.value c.as_slice.ensures.value c.in-Err.ensures.goes c.requires.sorted);
      pool = rw c.in-Ok-insert.ensures.items (pool_taken c.args.order.now.items c.pop.new.self.items c.in-Err.at p
          (rw c.in_ok-row-in-Err.ensures.items at c.requires.pool));
      row_room = omega (arith, c.requires.row_room);
      free_room = omega (arith, c.requires.free_room);
    }

pub index_of-requires : goal.index_of-requires
index_of-requires c = rw c.as_slice.ensures.value c.requires.sorted

pub returns-in-Ok-insert-clause-goes : goal.returns-in-Ok-insert-clause-goes
returns-in-Ok-insert-clause-goes c = rw (c.get.ensures.value, c.as_slice.ensures.value) at c.in-Err.ensures.goes
