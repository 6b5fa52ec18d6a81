use Rattle.lx_crew.proofs.Imports.{◌≡◌, view, IsSamePass}
use Rattle.lx_crew.proofs.SentLines.{SentSoFar}
use Rattle.lx_crew.proofs.operator.send_lines.Given as goal

abbrev pub invariant-loop : goal.invariant-loop
invariant-loop g l = record {
  can : (goal.iterator-loop g).can_next l.iterator';
  finite : (goal.iterator-loop g).is_finite l.iterator';
  same : IsSamePass l.initial.pass l.pass;
  name : l.lines.source.ghost_name ≡ l.initial.lines.source.ghost_name;
  so_far : SentSoFar g.S.Source l.place l.initial.lines l.lines (view l.pass);
}
