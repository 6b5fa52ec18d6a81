use Rattle.lx_patch.proofs.Imports.{subst, sym, StandsForPatch}
use Rattle.lx_patch.proofs.table.PatchTable.set.Goals as goal

pub returns : goal.returns
returns c = λ rows stands. c.set.ensures rows (subst (StandsForPatch rows) (sym c.self.view_is) stands)
