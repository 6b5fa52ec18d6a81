use Rattle.lx_lex.proofs.Imports.{◌-◌, ◌∷◌, ◌++◌, take, decimals_of}
use Rattle.lx_lex.proofs.Decimals.{Written}
use Rattle.lx_lex.proofs.put.write_decimals.Given as goal

abbrev pub invariant-loop-rest : goal.invariant-loop-rest
invariant-loop-rest l = Written l.room l.end l.last l.unit l.rest (take l.at l.fn.room ++ 46 ∷ decimals_of 3 l.unit l.fn.rest)

abbrev pub decreases-loop-rest : goal.decreases-loop-rest
decreases-loop-rest l = l.last - l.end
