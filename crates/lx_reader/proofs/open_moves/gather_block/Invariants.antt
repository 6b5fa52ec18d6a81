use Rattle.lx_reader.proofs.Imports.{◌≡◌, ◌≤◌, ◌+◌, ◌++◌, drop, length, take, moves_there}
use Rattle.lx_reader.proofs.open_moves.gather_block.Given as goal

abbrev pub invariant-loop-index : goal.invariant-loop-index
invariant-loop-index l = record {
  long : length l.list ≡ length l.initial.list;
  few : l.len ≤ l.at + l.index;
  list : take l.len l.list ++ moves_there (drop l.index l.moves) (drop l.index l.there)
      ≡ take l.at l.initial.list ++ moves_there l.moves l.there;
}
