use Rattle.lx_io.proofs.Imports.{length, ◌-◌, ◌≤◌, take, Ok, PutsBy}
use Rattle.lx_io.proofs.buffered.pass_on.Given as goal

abbrev pub invariant-rest : goal.invariant-rest
invariant-rest g l = (l.taken ≤ length l.bytes)
    × PutsBy {T = Unit {0}} g.K.Sink.holds g.K.Sink.faults g.K.Sink.wants l.initial.sink l.sink (Ok tt) (take l.taken l.bytes)

abbrev pub decreases-rest : goal.decreases-rest
decreases-rest g l = length l.bytes - l.taken
