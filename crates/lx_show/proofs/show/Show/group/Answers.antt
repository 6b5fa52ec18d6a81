use Rattle.lx_show.proofs.Imports.{ValidGroup}
use Rattle.lx_show.proofs.StoredShows.{lent_valid}
use Rattle.lx_show.proofs.show.Show.group.Goals as goal

pub returns-clause-valid : goal.returns-clause-valid
returns-clause-valid c = lent_valid ValidGroup _ _ _ c.self.view_is c.as_slice.ensures.value c.entry_of.ensures c.self.invariant.valid.groups
