-- The lines of moves as they are written one behind the other: each without its first word, and with that of the next line behind it.
use Rattle.std.specs.Prelude.{ℕ, ◌==◌, List, ◌∷◌, ◌++◌, codes, decimal, filter, flat_map}
use Rattle.lx_spec.specs.declared.Move.{Move}
use Rattle.lx_spec.specs.Numerals.{level_text}

abbrev pub shifted_line : Move → List ℕ
shifted_line move = decimal move.chan ++ 64 ∷ (level_text move.level ++ codes "\nCHAN ")

-- those of the moves that stand in a part
abbrev pub shifted_lines : ℕ → List Move → List ℕ
shifted_lines part moves = flat_map shifted_line (filter (λ move. move.part == part) moves)
