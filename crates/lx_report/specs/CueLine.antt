-- The label at the end of a cue's line.
use Rattle.std.specs.Prelude.{ℕ, List, [], ◌∷◌}

-- a space and the label, if there is one
abbrev pub label_behind : List ℕ → List ℕ
label_behind [] = []
label_behind (b ∷ bs) = 32 ∷ b ∷ bs
