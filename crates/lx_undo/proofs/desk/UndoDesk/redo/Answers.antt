use Rattle.lx_undo.proofs.Imports.{ap, sym, subst, Kept, UndoStands}
use Rattle.lx_undo.proofs.Turns.{ready_redone, steps_forth}
use Rattle.lx_undo.proofs.desk.UndoDesk.redo.Goals as goal

pub invariant_of-self : goal.invariant_of-self
invariant_of-self c = ready_redone (sym c.in-Some.ensures.plan) c.self.invariant (ap (λ (k : Kept). k.show) c.apply-undo.ensures.now)
    c.apply-undo.ensures.undo (rw c.in-Some.ensures.rest at c.put_back.ensures)

pub returns-in-Some-clause-steps : goal.returns-in-Some-clause-steps
returns-in-Some-clause-steps c = λ s stands.
    let stood = subst (UndoStands s) (sym c.self.view_is) stands in
    steps_forth c.self.inside.history stood (sym c.in-Some.ensures.plan) (ap (λ (k : Kept). k.show) c.apply-undo.ensures.now)
    (c.apply-undo.ensures.stands s.desk stood.desk) c.apply-undo.ensures.undo (rw c.in-Some.ensures.rest at c.put_back.ensures)
