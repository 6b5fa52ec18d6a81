use Rattle.lx_show.proofs.Imports.{take, AllByRecursion, CHANNELS, InRange, IsLevel}
use Rattle.lx_show.proofs.facts.of_moves.Given as goal

abbrev pub invariant-loop-entry : goal.invariant-loop-entry
invariant-loop-entry l = AllByRecursion (λ m. InRange CHANNELS m.chan × IsLevel m.level) (take l.entry-index l.entries)
