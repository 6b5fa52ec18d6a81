use Rattle.lx_reader.proofs.Imports.{◌≡◌, ◌≤◌, ◌*◌, ◌++◌, drop, length, take, moves_there}
use Rattle.lx_reader.proofs.open_moves.gather_blocks.Given as goal

abbrev pub invariant-loop-block : goal.invariant-loop-block
invariant-loop-block l = record {
  long : length l.list ≡ length l.initial.list;
  few : l.len ≤ l.block * 64;
  list : take l.len l.list ++ moves_there (drop (l.block * 64) l.moves) (drop (l.block * 64) l.there) ≡ moves_there l.moves l.there;
}
