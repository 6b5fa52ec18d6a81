use Rattle.lx_patch.proofs.Imports.{subst, sym, StandsForPatch}
use Rattle.lx_patch.proofs.Rows.{stands_placed}
use Rattle.lx_patch.proofs.wiring.Wiring.set.Goals as goal

pub returns : goal.returns
returns c = λ rows stands. stands_placed rows c.args.row (subst (StandsForPatch rows) (sym c.self.view_is) stands) c.get.ensures.value
    c.get-2.ensures.value c.get.ensures.least c.get.ensures.most
