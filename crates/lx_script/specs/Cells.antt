-- The cells of levels whose numbers begin anywhere.
use Rattle.std.specs.Prelude.{ℕ, List, [], ◌∷◌, ◌++◌, ◌==◌, flat_map, decimal, if◌then◌else◌}
use Rattle.std.specs.List.{enumerate_from}

-- ` number=level` for each level that isn't 0, the first level's number being given
abbrev pub cells_from : ℕ → List ℕ → List ℕ
cells_from number levels =
    flat_map (λ word. 32 ∷ word)
    (flat_map (λ e. if e.1 == 0 then [] else (decimal e.0 ++ 61 ∷ decimal e.1) ∷ []) (enumerate_from number levels))

-- the same of one level
abbrev pub cell_text : ℕ → ℕ → List ℕ
cell_text number level = if level == 0 then [] else 32 ∷ (decimal number ++ 61 ∷ decimal level)
