use Rattle.lx_embed.proofs.Imports.{◌≤◌, ◌-◌, IsOkAnd, Desk, StandsFor, after_ticks}
use Rattle.lx_embed.proofs.ticks.tick_plain.Given as goal

abbrev pub invariant-ticks : goal.invariant-ticks
invariant-ticks l = record {
  most : l.left ≤ l.n;
  ticks : (d : Desk) → StandsFor d l.fn.console → IsOkAnd (after_ticks (l.n - l.left) d) (λ next. StandsFor next l.console);
}

abbrev pub decreases-ticks : goal.decreases-ticks
decreases-ticks l = l.left
