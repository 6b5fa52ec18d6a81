use Rattle.lx_writer.proofs.Imports.{◌≡◌, ◌+◌, ◌*◌, ◌≤◌, ◌++◌, length, take, codes, shifted_lines}
use Rattle.lx_writer.proofs.lines.write_lines.Given as goal

abbrev pub invariant-loop-four : goal.invariant-loop-four
invariant-loop-four l = record {
  long : length l.text ≡ 4608;
  word : 5 ≤ l.end;
  room : l.end + 14 * length l.left ≤ 4485;
  text : take l.end l.text ++ shifted_lines l.part l.left ≡ codes "CHAN " ++ shifted_lines l.part l.moves;
}

abbrev pub decreases-loop-four : goal.decreases-loop-four
decreases-loop-four l = length l.left
