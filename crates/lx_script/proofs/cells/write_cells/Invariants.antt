use Rattle.lx_script.proofs.Imports.{◌≡◌, ◌*◌, ◌≤◌, take, cells_from}
use Rattle.lx_script.proofs.cells.write_cells.Given as goal

abbrev pub invariant-loop-at : goal.invariant-loop-at
invariant-loop-at l = record {
  room : l.end ≤ 9 * l.at;
  text : take l.end l.text ≡ cells_from l.number (take l.at l.levels);
}
