use Rattle.lx_gate.proofs.Imports.{refl}
use Rattle.lx_gate.proofs.FirstVersion.{frame_of_version}
use Rattle.lx_gate.proofs.port.copy_later.Goals as goal

pub returns-then-follows-2-clause-frame : goal.returns-then-follows-2-clause-frame
returns-then-follows-2-clause-frame g c =
    rw (c.copy_slots.ensures.slots, c.copy_slots.ensures.stamp.0, c.copy_slots.ensures.stamp.1)
    (frame_of_version _ _ _ _ _ _ _ c.requires.low c.requires.high refl c.requires.version)
