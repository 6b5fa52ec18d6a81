-- What a sink tells contracts, and what a source does: the ghost members of its trait as one value.
use Rattle.lx_io.specs.declared.sink.Sink as sink
use Rattle.lx_io.specs.declared.source.Source as source

-- what a sink holds and keeps back, and its counts: `told.holds`, `told.back`, `told.faults` and `told.wants`
abbrev pub ToldBySink : Type 0 → Type 1
ToldBySink K = sink.Ghosts K

-- what a source has left, its count, and what its last read gave: `told.left`, `told.faults` and `told.given`
abbrev pub ToldBySource : Type 0 → Type 1
ToldBySource S = source.Ghosts S
