use Rattle.lx_lex.proofs.Imports.{Nowhere, Passes, is_byte}
use Rattle.lx_lex.proofs.feed.last_feed.Given as goal

abbrev pub invariant-loop-place : goal.invariant-loop-place
invariant-loop-place l = Nowhere (Passes (is_byte 10) l.bytes) l.start l.place
