use Rattle.lx_show.proofs.Imports.{◌∙◌, ap, insert}
use Rattle.lx_show.proofs.Indexes.{placed_sorted, replaced, added}
use Rattle.lx_show.proofs.sorted.put.Goals as goal

pub returns-in-Ok-clause-ok : goal.returns-in-Ok-clause-ok
returns-in-Ok-clause-ok g c = replaced c.args.x c.key.ensures c.as_slice.ensures.value c.in-Ok.ensures.stands

pub returns-in-Ok-clause-sorted : goal.returns-in-Ok-clause-sorted
returns-in-Ok-clause-sorted g c = placed_sorted _ c.args.x _ (returns-in-Ok-clause-ok g c) c.requires

pub returns-in_ok-reserve-in-Err-clause-sorted : goal.returns-in_ok-reserve-in-Err-clause-sorted
returns-in_ok-reserve-in-Err-clause-sorted g c = placed_sorted _ c.args.x _
    (c.insert_in_room.ensures.items ∙ ap (λ xs. insert xs c.in-Err.at c.args.x) c.in_ok-reserve-in-Err.ensures.items
    ∙ added c.args.x c.key.ensures c.as_slice.ensures.value c.in-Err.ensures.goes) c.requires
