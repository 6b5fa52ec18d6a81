use Rattle.lx_levels.proofs.Imports.{◌-◌, ◌∙◌, ap, Stack, stack_at, stack_level, arith, length, length-drop, get_or, no_stack}
use Rattle.lx_fade.proofs.PushedFades.{stack_at-pushed}
use Rattle.lx_levels.proofs.Columns.{place_within, reads, pushed_here}
use Rattle.lx_levels.proofs.Written.{set_here, set_there}
use Rattle.lx_levels.proofs.racks.Racks.push.Goals as goal

pub index-foot-requires : goal.index-foot-requires
index-foot-requires c =
    omega (arith, place_within c.self.inside c.self.view_is c.requires.within, c.self.invariant.of_feet, c.self.inside.feet.ok)

pub push_in-push-requires-clause-within : goal.push_in-push-requires-clause-within
push_in-push-requires-clause-within c = place_within c.self.inside c.self.view_is c.requires.within

pub push_in-push-requires-clause-reach : goal.push_in-push-requires-clause-reach
push_in-push-requires-clause-reach c =
    (reads c.self.inside c.self.view_is c.self.invariant c.requires.within c.index-foot.ensures c.deref.ensures.value).reach

pub put-requires-clause-kept : goal.put-requires-clause-kept
put-requires-clause-kept c =
    rw (reads c.self.inside c.self.view_is c.self.invariant c.requires.within c.index-foot.ensures c.deref.ensures.value).long
    c.push_in-push.ensures.kept

pub put-requires-clause-room : goal.put-requires-clause-room
put-requires-clause-room c =
    let read = reads c.self.inside c.self.view_is c.self.invariant c.requires.within c.index-foot.ensures c.deref.ensures.value in
    omega (arith, read.long, c.push_in-push.ensures.kept, c.requires.room)

pub returns : goal.returns
returns c =
    let was = get_or c.args.self.now c.args.k no_stack in
    let kept = c.push_in-push.result.kept in
    let read = reads c.self.inside c.self.view_is c.self.invariant c.requires.within c.index-foot.ensures c.deref.ensures.value in
    let here = set_here c.args.self.now c.args.k _ no_stack c.requires.within c.put.ensures in
    record {
      level = λ m. ap (λ (s : Stack). stack_level s m) here
          ∙ ap (λ fs. stack_at was.bottom fs m) (pushed_here read kept c.push_in-push.ensures.kept c.push_in-push.ensures.stack)
          ∙ stack_at-pushed was.bottom was.fades c.args.start c.args.time c.args.target m;
      few = rw here (omega (arith, length-drop (length was.fades - kept) was.fades));
      others = set_there c.args.self.now c.args.k _ no_stack c.requires.within c.put.ensures;
    }
