use Rattle.lx_writer.proofs.Imports.{◌≤◌, ◌-◌, take, Ok, length, ◌==◌, filter, flat_map, Puts, Move, move_text}
use Rattle.lx_writer.proofs.lines.put_moves.Given as goal

abbrev pub invariant-loop-from : goal.invariant-loop-from
invariant-loop-from g l = record {
  within : l.from ≤ length l.moves;
  put : Puts {T = Unit {0}} g.K.Sink l.initial.sink l.sink (Ok tt)
      (flat_map move_text (filter (λ (entry : Move). entry.part == l.part) (take l.from l.moves)));
}

abbrev pub decreases-loop-from : goal.decreases-loop-from
decreases-loop-from g l = length l.moves - l.from
