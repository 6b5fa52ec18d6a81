use Rattle.lx_patch.proofs.Imports.{◌≡◌, List, subst, sym, arith, PatchRow, StandsForPatch}
use Rattle.lx_patch.proofs.Rows.{stands_first, drop_before}
use Rattle.lx_patch.proofs.wiring.Wiring.refresh.Goals as goal

pub loop-i-preserved : goal.loop-i-preserved
loop-i-preserved c =
    let rows = c.patch-rows.result.now in
    let here = drop_before rows c.loop-i.i c.index-rows-i.result c.loop-i-test.true c.loop-i.auto.i c.index-rows-i.is in
    subst (λ (xs : List PatchRow). StandsForPatch xs c.set.new.self) (sym here)
    (stands_first c.index-rows-i.result _ c.set.new.self (c.set.ensures _ c.loop-i.invariant))

pub returns : goal.returns
returns c =
    let none : c.loop-i.i ≡ 0 = omega arith in
    subst (λ (xs : List PatchRow). StandsForPatch xs c.loop-i.self) c.patch-rows.ensures.patch (rw none at c.loop-i.invariant)
