use Rattle.lx_edit.proofs.Imports.{◌∙◌, Move, IsStrictlySorted-filter}
use Rattle.lx_edit.proofs.MoveMarks.{part_has}
use Rattle.lx_edit.proofs.marks.part_of.Goals as goal

pub up_to-requires : goal.up_to-requires
up_to-requires c = rw c.above-from.ensures (IsStrictlySorted-filter (λ (m : Move). m.chan) _ c.args.moves.now c.requires)

pub returns-clause-sorted : goal.returns-clause-sorted
returns-clause-sorted c = rw (c.up_to.ensures, c.above-from.ensures)
    (IsStrictlySorted-filter (λ (m : Move). m.chan) _ _ (IsStrictlySorted-filter (λ (m : Move). m.chan) _ c.args.moves.now c.requires))

pub returns-clause-part : goal.returns-clause-part
returns-clause-part c = λ x within.
    part_has c.args.within x c.args.moves.now c.above-from.result.now c.up_to.result.now c.get.result c.get-2.result
    c.get.ensures.least (c.get.ensures.value ∙ c.first.ensures.value) (c.get-2.ensures.value ∙ c.last.ensures.value) c.above-from.ensures c.up_to.ensures within
