use Rattle.lx_fade.proofs.Imports.{◌∙◌, ap, arith, List, subst, sym, Fade, stack_at, StartsFall, stack_in}
use Rattle.lx_fade.proofs.PushedFades.{stack_at-pushed}
use Rattle.lx_fade.proofs.Stacks.{stack_in-pushed, StartsFall-pushed}
use Rattle.lx_fade.proofs.stack.push_fade.Goals as goal

pub returns : goal.returns
returns c =
    let row = c.args.row.now in
    let used = c.args.used in
    let push = c.push_in-push.result in
    let is = stack_in-pushed row used push.kept c.args.bottom c.args.start c.args.time c.args.target push.fade c.requires.room
    c.push_in-push.ensures.kept c.push_in-push.ensures.stack in
    record {
      stack = is;
      count = omega (arith, c.push_in-push.ensures.kept);
      level = λ m. ap (λ (s : List Fade). stack_at c.args.bottom s m) is
          ∙ stack_at-pushed c.args.bottom (stack_in row used) c.args.start c.args.time c.args.target m;
      order = λ falls. subst StartsFall (sym is)
          (StartsFall-pushed c.args.bottom (stack_in row used) c.args.start c.args.time c.args.target falls);
    }
