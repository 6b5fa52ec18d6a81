use Rattle.lx_undo.proofs.Imports.{ap, sym, subst, Kept, UndoStands}
use Rattle.lx_undo.proofs.Turns.{ready_last, ready_undone, steps_back}
use Rattle.lx_undo.proofs.desk.UndoDesk.undo.Goals as goal

pub apply-again-requires : goal.apply-again-requires
apply-again-requires c = ready_last c.self.inside.console.show c.self.inside.history.back c.in-Some.plan (sym c.in-Some.ensures.plan) c.self.invariant.back

pub invariant_of-self : goal.invariant_of-self
invariant_of-self c = ready_undone (sym c.in-Some.ensures.plan) c.self.invariant (ap (λ (k : Kept). k.show) c.apply-again.ensures.now)
    c.apply-again.ensures.undo (rw c.in-Some.ensures.rest at c.put_forth.ensures)

pub returns-in-Some-clause-steps : goal.returns-in-Some-clause-steps
returns-in-Some-clause-steps c = λ s stands.
    let stood = subst (UndoStands s) (sym c.self.view_is) stands in
    steps_back c.self.inside.history stood (sym c.in-Some.ensures.plan) (ap (λ (k : Kept). k.show) c.apply-again.ensures.now)
    (c.apply-again.ensures.stands s.desk stood.desk) c.apply-again.ensures.undo (rw c.in-Some.ensures.rest at c.put_forth.ensures)
