use Rattle.lx_desk.proofs.Imports.{Ok, flat_map, range_with_len, Puts, made_patch}
use Rattle.lx_desk.proofs.generator.put_patch.Given as goal

abbrev pub invariant-loop-before : goal.invariant-loop-before
invariant-loop-before g l = Puts {T = Unit {0}} g.K.Sink l.initial.sink l.sink (Ok tt) (flat_map made_patch (range_with_len 1 l.before))
