use Rattle.lx_playback.proofs.Imports.{◌≡◌, ◌∷◌, List, arith, reverse, rules, subst, sym, Run, NewestFirst}
use Rattle.std.proofs.lemmas.Grind.{common_steps}
use Rattle.lx_playback.proofs.Backwards.{newest_now}
use Rattle.lx_playback.proofs.playback.Playback.append.Goals as goal

pub invariant_of-self : goal.invariant_of-self
invariant_of-self c =
    let older : List Run = reverse c.self.inside.live.items in
    let live : reverse c.push.new.self.items ≡ c.args.run ∷ older = grind (arith, common_steps, c.in-Ok.ensures.items) in
    let now : c.args.run.start ≡ c.self.inside.moment = grind (arith, c.requires.now, c.self.view_is) in
    record {
      valid = record {
        moment = search rules;
        even = search rules;
        few = grind (arith, common_steps);
        live = search rules;
        order = subst NewestFirst (sym live) (
          newest_now older c.args.run c.self.inside.moment now c.self.invariant.valid.live,
          c.self.invariant.valid.order,
        );
      };
      room = search rules;
      over = search rules;
    }
