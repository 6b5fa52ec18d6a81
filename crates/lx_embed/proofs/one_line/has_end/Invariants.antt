use Rattle.lx_embed.proofs.Imports.{◌+◌}
use Rattle.lx_embed.specs.LineEnds.{TellsEnd}
use Rattle.lx_embed.proofs.one_line.has_end.Given as goal

abbrev pub invariant-loop-k : goal.invariant-loop-k
invariant-loop-k l = TellsEnd l.bytes l.from (l.from + l.k) l.found
