use Rattle.lx_writer.proofs.Imports.{take, Ok, flat_map, Puts, part_text}
use Rattle.lx_writer.proofs.part.put_parts.Given as goal

abbrev pub invariant-loop-part : goal.invariant-loop-part
invariant-loop-part g l = Puts {T = Unit {0}} g.K.Sink l.initial.sink l.sink (Ok tt) (flat_map (part_text l.moves) (take l.part-index l.parts))
