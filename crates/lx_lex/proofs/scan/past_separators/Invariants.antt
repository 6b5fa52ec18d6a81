use Rattle.lx_lex.proofs.Imports.{◌≡◌, length, is_separator, after_all}
use Rattle.lx_lex.proofs.scan.past_separators.Given as goal

abbrev pub invariant-loop-rest : goal.invariant-loop-rest
invariant-loop-rest l = after_all is_separator l.rest ≡ after_all is_separator l.line

abbrev pub decreases-loop-rest : goal.decreases-loop-rest
decreases-loop-rest l = length l.rest
