-- Parts of a number's text.
use Rattle.std.specs.Prelude.{ℕ, ◌==◌, List, [], ◌∷◌, Option, Some, None, if◌then◌else◌}
use Rattle.lx_spec.specs.Numerals.{decimals_of}

-- the point and the decimals of a rest of the unit, where it isn't 0
abbrev pub decimals_text : ℕ → ℕ → List ℕ
decimals_text unit rest = if rest == 0 then [] else 46 ∷ decimals_of 3 unit rest

-- the byte behind a number, where there is one
abbrev pub behind_text : Option ℕ → List ℕ
behind_text None = []
behind_text (Some byte) = byte ∷ []
