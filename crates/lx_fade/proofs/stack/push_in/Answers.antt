use Rattle.lx_fade.proofs.Imports.{◌≡◌, ◌∷◌, List, ap, arith, ◌∙◌, Fade, stack_at, stack_column}
use Rattle.lx_fade.proofs.PushedFades.{before_start}
use Rattle.lx_fade.proofs.stack.push_in.Goals as goal

pub returns-clause-stack : goal.returns-clause-stack
returns-clause-stack c =
    let stack : List Fade = stack_column c.args.row.now c.args.at.step c.args.at.first c.args.at.used in
    let kept : List Fade = stack_column c.args.row.now c.args.at.step c.args.at.first c.begun_in-kept.result in
    let from : c.newest_at-from.result ≡ stack_at c.args.bottom stack c.args.start =
    c.newest_at-from.ensures ∙ ap (λ (s : List Fade). stack_at c.args.bottom s c.args.start) c.begun_in-kept.ensures.stack
    ∙ before_start c.args.bottom c.args.start c.args.start stack (omega arith) in
    ap (λ v. record { start = c.args.start; time = c.args.time; from = v; target = c.args.target } ∷ kept) from
    ∙ ap (λ (fs : List Fade). record {
      start = c.args.start;
      time = c.args.time;
      from = stack_at c.args.bottom stack c.args.start;
      target = c.args.target;
    } ∷ fs) c.begun_in-kept.ensures.stack
