use Rattle.lx_reader.proofs.Imports.{sym, ap, ◌∙◌, arith, level_in}
use Rattle.lx_reader.proofs.LookMoves.{last_look-at}
use Rattle.lx_reader.proofs.looks.last_look.Goals as goal

pub returns-in-len1-up : goal.returns-in-len1-up
returns-in-len1-up c =
    c.level_of.ensures ∙ ap (λ z. level_in z c.args.chan) c.last-item.is
    ∙ sym (last_look-at c.args.front.now c.last-item.result c.args.chan (omega arith))
