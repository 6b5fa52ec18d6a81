use Rattle.lx_patch.proofs.Imports.{subst, sym, StandsForPatch}
use Rattle.lx_patch.proofs.Rows.{stands_without}
use Rattle.lx_patch.proofs.wiring.Wiring.clear.Goals as goal

pub returns : goal.returns
returns c = λ rows stands. stands_without rows c.args.dimmer (subst (StandsForPatch rows) (sym c.self.view_is) stands) c.get.ensures.value
    c.get.ensures.least c.get.ensures.most
