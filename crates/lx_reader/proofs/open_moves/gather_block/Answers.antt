use Rattle.lx_reader.proofs.Imports.{◌∙◌, ◌++◌, ap, append-nil, sym, take}
use Rattle.lx_reader.proofs.OpenMoves.{none_among}
use Rattle.lx_reader.proofs.open_moves.gather_block.Goals as goal

pub returns-else-any_there-clause-list : goal.returns-else-any_there-clause-list
returns-else-any_there-clause-list c =
    sym (append-nil (take c.args.at c.args.list.now))
    ∙ ap (λ ms. take c.args.at c.args.list.now ++ ms)
    (sym (none_among c.args.moves.now c.args.there.now (c.any_there.ensures c.if-any_there.false)))
