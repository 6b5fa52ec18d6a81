use Rattle.lx_crew.proofs.Imports.{◌+◌, ap, ◌∙◌, sym, length}
use Rattle.lx_crew.proofs.Rules.{sends}
use Rattle.lx_crew.proofs.operator.send.Goals as goal

pub try_push_as-requires-clause-rule : goal.try_push_as-requires-clause-rule
try_push_as-requires-clause-rule g c =
    let v = c.loop.invariant.view in
    let e = c.loop.invariant.entry in
    sends _ _ _ _ (ap (λ w. w.pushes) v ∙ c.requires.pushes) (ap (λ x. x.place) e ∙ (c.requires.own ∙ ap (λ w. w.place) (sym v)))
    (ap (λ x. x.number) e ∙ (c.requires.next ∙ ap (λ w. length w.pushed + 1) (sym v)))
