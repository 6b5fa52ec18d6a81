use Rattle.lx_show.proofs.Imports.{◌∙◌, subst, sym, AllByRecursion, Show, ValidPatchRow, IfSome, found_has}
use Rattle.lx_show.proofs.show.Show.patch_of.Goals as goal

pub returns-clause-valid : goal.returns-clause-valid
returns-clause-valid c = subst (λ (s : Show). IfSome c.copied.result (ValidPatchRow s.channels)) c.self.view_is
    (found_has _ _ _ c.copied.result (c.copied.ensures ∙ c.entry_of.ensures)
    (subst (AllByRecursion (ValidPatchRow c.self.inside.channels)) (sym c.as_slice.ensures.value) c.self.invariant.valid.patch))
