use Rattle.lx_spec.proofs.Imports.{◌≡◌, take}
use Rattle.lx_spec.proofs.label.Label.copy.Given as goal

abbrev pub invariant-loop-byte : goal.invariant-loop-byte
invariant-loop-byte l = l.bytes.items ≡ take l.byte-index l.byte-items
