use Rattle.lx_patch.proofs.Imports.{refl, arith, get_or, eqb-true}
use Rattle.lx_patch.proofs.PlaceRows.{row_is}
use Rattle.lx_patch.proofs.slots.is_run.Goals as goal

pub returns : goal.returns
returns c = λ same. row_is c.args.places.now c.args.at (get_or c.args.places.now c.args.at 0) c.requires refl
    (omega (arith, c.if-first-gt-LAST_START.false)) (eqb-true _ _ same)
