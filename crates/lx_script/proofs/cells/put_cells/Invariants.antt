use Rattle.lx_script.proofs.Imports.{◌∷◌, ◌≤◌, ◌-◌, take, Ok, length, flat_map, cells}
use Rattle.lx_io.specs.Puts.{Puts}
use Rattle.lx_script.proofs.cells.put_cells.Given as goal

abbrev pub invariant-loop-from : goal.invariant-loop-from
invariant-loop-from g l = record {
  within : l.from ≤ length l.levels;
  put : Puts {T = Unit {0}} g.K.Sink l.initial.sink l.sink (Ok tt) (flat_map (λ word. 32 ∷ word) (cells (take l.from l.levels)));
}

abbrev pub decreases-loop-from : goal.decreases-loop-from
decreases-loop-from g l = length l.levels - l.from
