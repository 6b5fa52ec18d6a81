use Rattle.lx_writer.proofs.Imports.{take, Ok, flat_map, Puts}
use Rattle.lx_writer.proofs.pieces.write_each.Given as goal

abbrev pub invariant-loop-entry : goal.invariant-loop-entry
invariant-loop-entry g l = Puts {T = Unit {0}} g.K.Sink l.initial.sink l.sink (Ok tt) (flat_map g.T.Written.text (take l.entry-index l.entries))
