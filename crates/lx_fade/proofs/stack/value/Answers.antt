use Rattle.lx_fade.proofs.Imports.{◌∙◌, ap, List, Fade, stack_at}
use Rattle.lx_fade.proofs.Rows.{column_whole}
use Rattle.lx_fade.proofs.stack.value.Goals as goal

pub returns : goal.returns
returns c =
    c.value_in.ensures ∙ ap (λ (s : List Fade). stack_at c.args.bottom s c.args.m) (column_whole c.args.row.now c.args.used c.requires)
