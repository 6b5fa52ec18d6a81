use Rattle.lx_lex.proofs.Imports.{◌≡◌, ◌+◌, ◌-◌, length, tokens, after_tokens}
use Rattle.lx_lex.proofs.cut.rest_after.Given as goal

abbrev pub invariant-loop : goal.invariant-loop
invariant-loop l =
    (after_tokens (l.count - l.counter) l.rest ≡ after_tokens l.count l.line)
    × (length (tokens l.rest) + l.counter ≡ length (tokens l.line))
