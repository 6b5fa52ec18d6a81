use Rattle.lx_spec.proofs.Imports.{◌≡◌, take, label_of}
use Rattle.lx_spec.proofs.label.Label.new.Given as goal

abbrev pub invariant-loop-byte : goal.invariant-loop-byte
invariant-loop-byte l = l.kept.items ≡ label_of (take l.byte-index l.bytes)
