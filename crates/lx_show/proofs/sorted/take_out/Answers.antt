use Rattle.lx_show.proofs.Imports.{◌∙◌, IsStrictlySorted-filter}
use Rattle.lx_show.proofs.Indexes.{without, none_to_take}
use Rattle.lx_show.proofs.sorted.take_out.Goals as goal

pub returns-in-Ok-clause-items : goal.returns-in-Ok-clause-items
returns-in-Ok-clause-items g c = c.remove.ensures.items
    ∙ without _ _ _ _ c.in-Ok.at c.requires c.as_slice.ensures.value c.in-Ok.ensures.stands

pub returns-in-Ok-clause-sorted : goal.returns-in-Ok-clause-sorted
returns-in-Ok-clause-sorted g c = rw (returns-in-Ok-clause-items g c) (IsStrictlySorted-filter _ _ _ c.requires)

pub returns-in-Err-clause-items : goal.returns-in-Err-clause-items
returns-in-Err-clause-items g c = none_to_take c.requires c.as_slice.ensures.value c.in-Err.ensures.goes
