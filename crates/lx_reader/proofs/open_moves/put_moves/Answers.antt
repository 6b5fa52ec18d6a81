use Rattle.lx_reader.proofs.Imports.{◌∙◌, length, sym, eq_from}
use Rattle.std.proofs.lemmas.List.{nil_from_length}
use Rattle.lx_reader.proofs.PlacedOver.{placed_alone}
use Rattle.lx_reader.proofs.open_moves.put_moves.Goals as goal

pub returns-clause-list : goal.returns-clause-list
returns-clause-list g c =
    placed_alone (λ m. m.chan) c.args.moves.now _ _ c.requires c.in_ok-list.ensures.list
    (sym c.as_slice.ensures.entries
    ∙ nil_from_length c.as_slice.result.now (sym (eq_from (length c.as_slice.result.now) 0 (sym c.if-not-is_empty.ensures))))
