use Rattle.lx_console.proofs.Imports.{◌≡◌, ◌≤◌, ◌++◌, take, drop, arith, length, ap, ◌∙◌, reaches}
use Rattle.lx_console.proofs.KeptOutputs.{mixed_outs, written}
use Rattle.lx_console.proofs.kept_output.KeptOutput.refill.Goals as goal

pub follow-requires-clause-reach : goal.follow-requires-clause-reach
follow-requires-clause-reach c =
    let enough : c.args.player.now.show.channels ≤ length c.deref-2.result.now =
    omega (arith, c.deref-2.ensures.len, c.requires.reaches.mixed_reach) in
    reaches c.args.player.now.show c.args.self.now.table (length c.deref-2.result.now) c.contribution.ensures.valid enough c.requires.patch

pub returns : goal.returns
returns c =
    let mixed = c.args.self.now.mixed in
    let slots = c.args.self.now.slots in
    let mixed_are : take mixed.len (c.mix_into.new.out ++ drop (length c.mix_into.new.out) mixed.items) ≡ c.mix_into.new.out =
    written mixed.len c.mix_into.new.out mixed.items (omega (arith, c.mix_into.auto.out, c.deref_mut.ensures.len)) in
    let outs_are : c.swap.new.x.items ≡ c.mix_into.new.out = ap (λ v. v.items) c.swap.ensures.x_after ∙ mixed_are in
    let slots_are = written slots.len c.follow.new.slots slots.items (omega (arith, c.follow.auto.slots, c.deref_mut-2.ensures.len)) in
    let places = c.mix_into.auto.out ∙ ap length c.deref_mut.ensures.value ∙ c.requires.reaches.mixed_reach in
    record {
      reaches = record {
        outs_reach = rw outs_are places;
        mixed_reach = ap (λ v. length v.items) c.swap.ensures.y_after ∙ c.requires.reaches.outs_reach;
        slots_reach = rw slots_are (c.follow.auto.slots ∙ ap length c.deref_mut-2.ensures.value ∙ c.requires.reaches.slots_reach);
      };
      rows = c.contribution.ensures.valid.patch;
      patch_stands = c.requires.patch;
      outs = rw outs_are (mixed_outs c.args.player.now c.args.levels.now c.contribution.result.now c.mix_into.new.out c.master.result
          c.contribution.ensures.table places c.master.ensures c.mix_into.ensures);
      slots_stand = rw (slots_are, outs_are) (rw (c.deref-2.ensures.value ∙ mixed_are) at (c.follow.ensures c.args.player.now.show.patch
          c.requires.patch (rw (c.deref.ensures.value, c.deref_mut-2.ensures.value) c.requires.slots)));
    }
