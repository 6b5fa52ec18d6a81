use Rattle.lx_show.proofs.Imports.{◌∙◌}
use Rattle.lx_show.proofs.Indexes.{without, none_to_take}
use Rattle.lx_show.proofs.cue.take_part_out.Goals as goal

pub returns-in-Ok-clause-others : goal.returns-in-Ok-clause-others
returns-in-Ok-clause-others c = rw (← c.get.ensures.value)
    (c.remove.ensures.items ∙ without _ _ _ _ c.in-Ok.at c.requires c.as_slice.ensures.value c.in-Ok.ensures.stands)

pub returns-in-Err-clause-others : goal.returns-in-Err-clause-others
returns-in-Err-clause-others c = rw (← c.get.ensures.value) (none_to_take c.requires c.as_slice.ensures.value c.in-Err.ensures.goes)
