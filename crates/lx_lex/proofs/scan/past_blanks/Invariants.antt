use Rattle.lx_lex.proofs.Imports.{◌≡◌, length, is_blank, after_all}
use Rattle.lx_lex.proofs.scan.past_blanks.Given as goal

abbrev pub invariant-loop-rest : goal.invariant-loop-rest
invariant-loop-rest l = after_all is_blank l.rest ≡ after_all is_blank l.line

abbrev pub decreases-loop-rest : goal.decreases-loop-rest
decreases-loop-rest l = length l.rest
