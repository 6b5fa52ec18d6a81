use Rattle.lx_patch.proofs.Imports.{ℕ, List, length, refl, subst, sym, ◌∙◌, AreDarkFrom, ReachTable, StandsForPatch}
use Rattle.lx_patch.proofs.SlotChanges.{same_table, table_of_all, table_of_lit}
use Rattle.lx_patch.proofs.table.PatchTable.follow.Goals as goal

pub returns-then-many : goal.returns-then-many
returns-then-many c = λ rows stands old.
    let levels_are = c.levels-levels.ensures.levels in
    let same = same_table c.places-places.ensures.places levels_are c.self.view_is in
    table_of_lit (subst (StandsForPatch rows) same stands) old c.loop-k.invariant.followed
    (subst (λ (ls : List ℕ). AreDarkFrom ls c.self.inside.followers.top) (sym levels_are) c.self.invariant.top) c.fill.ensures.filled
    c.fill.ensures.others (c.fill.auto.slots ∙ c.loop-k.auto.slots ∙ c.requires.slots)

pub returns : goal.returns
returns c = λ rows stands old.
    let same = same_table c.places-places.ensures.places c.levels-levels.ensures.levels c.self.view_is in
    table_of_all (subst (StandsForPatch rows) same stands) old c.loop-k.invariant.followed c.requires.same c.loop-k.invariant.within
    (c.in_default.ensures.none refl) (subst (ReachTable (length c.args.out_levels.now)) same c.requires.reach)
    (c.loop-k.auto.slots ∙ c.requires.slots)
