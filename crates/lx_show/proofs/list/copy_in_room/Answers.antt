use Rattle.lx_show.proofs.Imports.{[], ◌∷◌, ◌++◌, ◌∙◌, sym}
use Rattle.lx_show.proofs.Stretches.{one_more}
use Rattle.lx_show.proofs.list.copy_in_room.Goals as goal

pub loop-x-preserved : goal.loop-x-preserved
loop-x-preserved g c = record {
  items = c.push_reserved.ensures.items ∙ (λ i. c.loop-x.invariant.items i ++ (c.in_ok-copied.ensures.value i ∷ []))
      ∙ sym (one_more _ _ _ c.loop-x-test.true c.x-item.is);
  room = c.push_reserved.ensures.capacity ∙ c.loop-x.invariant.room;
  count = c.in_ok-copied.ensures.cause.kept ∙ c.loop-x.invariant.count;
}
