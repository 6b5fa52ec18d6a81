use Rattle.lx_console.proofs.Imports.{◌≤◌, arith, length, ap, ◌∙◌, reaches}
use Rattle.lx_console.proofs.KeptOutputs.{mixed_outs, written}
use Rattle.lx_console.proofs.kept_output.KeptOutput.fill.Goals as goal

pub frame_into-requires-clause-reach : goal.frame_into-requires-clause-reach
frame_into-requires-clause-reach c =
    let enough : c.args.player.now.show.channels ≤ length c.deref.result.now =
    omega (arith, c.deref.ensures.len, c.requires.reaches.outs_reach) in
    reaches c.args.player.now.show c.args.self.now.table (length c.deref.result.now) c.contribution.ensures.valid enough c.requires.patch

pub returns : goal.returns
returns c =
    let outs = c.args.self.now.outs in
    let slots = c.args.self.now.slots in
    let places = c.mix_into.auto.out ∙ ap length c.deref_mut.ensures.value ∙ c.requires.reaches.outs_reach in
    let outs_are = written outs.len c.mix_into.new.out outs.items (omega (arith, c.mix_into.auto.out, c.deref_mut.ensures.len)) in
    let slots_are = written slots.len c.frame_into.new.slots slots.items (omega (arith, c.frame_into.auto.slots, c.deref_mut-2.ensures.len)) in
    record {
      reaches = record {
        outs_reach = rw outs_are places;
        mixed_reach = c.requires.reaches.mixed_reach;
        slots_reach = rw slots_are (c.frame_into.auto.slots ∙ ap length c.deref_mut-2.ensures.value ∙ c.requires.reaches.slots_reach);
      };
      rows = c.contribution.ensures.valid.patch;
      patch_stands = c.requires.patch;
      outs = rw outs_are (mixed_outs c.args.player.now c.args.levels.now c.contribution.result.now c.mix_into.new.out c.master.result
          c.contribution.ensures.table places c.master.ensures c.mix_into.ensures);
      slots_stand = rw slots_are (rw c.deref.ensures.value at (c.frame_into.ensures c.args.player.now.show.patch c.requires.patch));
    }
