use Rattle.lx_fade.proofs.Imports.{List, ap, arith, ◌∙◌, Fade, stack_at, stack_column}
use Rattle.lx_fade.proofs.PushedFades.{before_start}
use Rattle.lx_fade.proofs.stack.value_in.Goals as goal

pub returns : goal.returns
returns c =
    let stack : List Fade = stack_column c.args.row.now c.args.at.step c.args.at.first c.args.at.used in
    c.newest_at.ensures ∙ ap (λ (s : List Fade). stack_at c.args.bottom s c.args.m) c.begun_in-kept.ensures.stack
    ∙ before_start c.args.bottom c.args.m c.args.m stack (omega arith)
