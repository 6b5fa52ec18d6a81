use Rattle.lx_show.proofs.Imports.{◌∙◌, refl, sym, slice_get_read}
use Rattle.lx_show.proofs.Indexes.{placed_sorted, replaced}
use Rattle.lx_show.proofs.Stretches.{first_and_rest}
use Rattle.lx_show.proofs.stretch.put_front.Goals as goal

pub put_over-count-requires : goal.put_over-count-requires
put_over-count-requires g c = placed_sorted _ c.index-more-0.result _ (replaced c.index-more-0.result c.key.ensures c.as_slice.ensures.value c.in-Ok.ensures.stands) c.requires.sorted

pub stretch-count-requires-clause-goes : goal.stretch-count-requires-clause-goes
stretch-count-requires-clause-goes g c = rw (slice_get_read c.args.more.now _ 0 c.index-more-0.result refl c.requires.some c.index-more-0.is)
    (rw (← c.key.ensures, c.as_slice-in-Err.ensures.value, ← c.as_slice.ensures.value) c.in-Err.ensures.goes)

pub returns-in-Ok-clause-items : goal.returns-in-Ok-clause-items
returns-in-Ok-clause-items g c = rw (first_and_rest c.args.more.now _ c.index-more-0.result c.requires.some c.index-more-0.is)
    (rw (← replaced c.index-more-0.result c.key.ensures c.as_slice.ensures.value c.in-Ok.ensures.stands) c.put_over-count.ensures.items)

pub returns-in-Err-clause-items : goal.returns-in-Err-clause-items
returns-in-Err-clause-items g c = c.insert_all.ensures.items
    ∙ rw c.as_slice-in-Err.ensures.value at (sym c.stretch-count.ensures.items)
