use Rattle.lx_lex.proofs.Imports.{◌≤◌, ◌-◌, Nowhere, Passes, is_byte}
use Rattle.lx_lex.proofs.feed.next_lf.Given as goal

abbrev pub invariant-loop-at : goal.invariant-loop-at
invariant-loop-at l = record {
  from : l.start ≤ l.at;
  none : Nowhere (Passes (is_byte 10) l.bytes) l.start l.at;
}

abbrev pub decreases-loop-at : goal.decreases-loop-at
decreases-loop-at l = l.end - l.at
