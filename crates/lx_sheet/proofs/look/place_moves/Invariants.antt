use Rattle.lx_sheet.proofs.Imports.{◌≡◌, ℕ, drop, level_in_look}
use Rattle.lx_sheet.proofs.Moves.{level_placed}
use Rattle.lx_sheet.proofs.look.place_moves.Given as goal

abbrev pub invariant-loop-i : goal.invariant-loop-i
invariant-loop-i l = (c : ℕ) → level_placed (drop l.i l.moves) c (level_in_look l.look c) ≡ level_placed l.moves c
    (level_in_look l.initial.look c)
