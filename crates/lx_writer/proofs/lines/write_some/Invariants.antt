use Rattle.lx_writer.proofs.Imports.{◌≡◌, ◌+◌, ◌*◌, ◌≤◌, ◌++◌, length, take, shifted_lines}
use Rattle.lx_writer.proofs.lines.write_some.Given as goal

abbrev pub invariant-loop-entry : goal.invariant-loop-entry
invariant-loop-entry l = record {
  long : length l.text ≡ 4608;
  more : l.at ≤ l.end;
  room : l.end ≤ l.at + 14 * l.entry-index;
  text : take l.end l.text ≡ take l.at l.initial.text ++ shifted_lines l.part (take l.entry-index l.moves);
}
