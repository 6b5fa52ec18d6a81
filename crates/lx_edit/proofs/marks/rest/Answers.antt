use Rattle.lx_edit.proofs.Imports.{sym, subst, IsStrictlySorted, Move, IsStrictlySorted-drop, rest_of_slice}
use Rattle.lx_edit.proofs.marks.rest.Goals as goal

pub returns-clause-sorted : goal.returns-clause-sorted
returns-clause-sorted c =
    subst (IsStrictlySorted (λ (m : Move). m.chan)) (sym (rest_of_slice c.args.from c.args.moves.now c.requires.from))
    (IsStrictlySorted-drop (λ (m : Move). m.chan) c.args.from c.args.moves.now c.requires.sorted)
