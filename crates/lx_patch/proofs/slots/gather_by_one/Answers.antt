use Rattle.lx_patch.proofs.Imports.{◌+◌, get_or, ◌∙◌, arith, length-set}
use Rattle.std.proofs.lemmas.List.Edits.{fill_by_more}
use Rattle.lx_patch.proofs.slots.gather_by_one.Goals as goal

pub loop-k-preserved : goal.loop-k-preserved
loop-k-preserved c = record {
  long = length-set c.loop-k.gathered c.loop-k.k _ ∙ c.loop-k.invariant.long;
  each = fill_by_more (λ k. get_or c.args.outs.now (get_or c.args.places.now (c.args.at + k) 0) 0) c.loop-k.gathered c.loop-k.k 0
      (omega (arith, c.loop-k.invariant.long)) c.loop-k.invariant.each;
}
