use Rattle.lx_lex.proofs.Imports.{◌≡◌, ◌≤◌, ◌||◌, not, length, is_separator, begins_comment, after_all}
use Rattle.lx_lex.proofs.scan.past_token.Given as goal

abbrev pub invariant-loop-rest : goal.invariant-loop-rest
invariant-loop-rest l =
    (after_all (λ b. not (is_separator b || begins_comment b)) l.rest ≡ after_all (λ b. not (is_separator b || begins_comment b)) l.line)
    × (length l.rest ≤ length l.line)

abbrev pub decreases-loop-rest : goal.decreases-loop-rest
decreases-loop-rest l = length l.rest
