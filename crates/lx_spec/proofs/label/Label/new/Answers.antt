use Rattle.lx_spec.proofs.Imports.{take}
use Rattle.lx_spec.proofs.Labels.{label_of-is}
use Rattle.lx_spec.proofs.label.Label.new.Goals as goal

pub invariant_of-result : goal.invariant_of-result
invariant_of-result c = label_of-is (take c.loop-byte.byte-index c.args.bytes.now) c.loop-byte.kept.items c.loop-byte.invariant
