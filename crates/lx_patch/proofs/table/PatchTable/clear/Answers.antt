use Rattle.lx_patch.proofs.Imports.{subst, sym, StandsForPatch}
use Rattle.lx_patch.proofs.table.PatchTable.clear.Goals as goal

pub returns : goal.returns
returns c = λ rows stands. c.clear.ensures rows (subst (StandsForPatch rows) (sym c.self.view_is) stands)
