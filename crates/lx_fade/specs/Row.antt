-- Stacks of fades in rows: a row lends the room.
use Rattle.std.specs.Prelude.{ℕ, zero, suc, ◌+◌, ◌*◌, List, [], ◌∷◌, take, reverse, slice_index_or}
use Rattle.lx_fade.specs.Fades.{Fade}

-- the stack of the row's first entries, the newest first
abbrev pub stack_in : List Fade → ℕ → List Fade
stack_in row used = reverse (take used row)

-- what stands where no fade is
abbrev pub no_fade : Fade
no_fade = record { start = 0; time = 0; from = 0; target = 0 }

-- the stack of this many entries of a row, the oldest at a place and each a step behind the one before, the newest first
abbrev pub stack_column : List Fade → ℕ → ℕ → ℕ → List Fade
stack_column row step first zero = []
stack_column row step first (suc j) = slice_index_or row (j * step + first) no_fade ∷ stack_column row step first j
