use Rattle.lx_undo.proofs.Imports.{ap, sym, subst, Show, with_show, planned, StandsFor, UndoKept, UndoStands}
use Rattle.lx_undo.proofs.Turns.{ready_kept, stands_kept}
use Rattle.lx_undo.proofs.desk.UndoDesk.apply.Goals as goal

pub invariant_of-self : goal.invariant_of-self
invariant_of-self c = ready_kept c.self.invariant c.apply-undo.ensures.undo c.keep.ensures

pub returns : goal.returns
returns c = λ s stands.
    let stood = subst (UndoStands s) (sym c.self.view_is) stands in
    stands_kept c.self.inside.history stood (subst (λ (show : Show). StandsFor (with_show s.desk (planned show c.args.plan)) c.apply-undo.new.self)
    (ap (λ (u : UndoKept). u.console.show) c.self.view_is) (c.apply-undo.ensures.stands s.desk stood.desk)) c.apply-undo.ensures.undo c.keep.ensures
