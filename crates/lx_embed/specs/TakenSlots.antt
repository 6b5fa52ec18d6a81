-- The slots that a host took last.
use Rattle.std.specs.Prelude.{ℕ, ◌-◌, Option, Some, None, List, slice_get, option_and_then, if◌then◌else◌}
use Rattle.lx_embed.specs.declared.taken.Taken.{Taken}
use Rattle.lx_embed.specs.declared.taken.TakenSlots.{TakenSlots}

-- what was taken last of one universe, if it was
abbrev pub slots_taken : TakenSlots → Option (List ℕ)
slots_taken it = if it.is_taken then Some it.slots else None

-- of each, by its number
abbrev pub taken_of : Taken → ℕ → Option (List ℕ)
taken_of taken u = option_and_then slots_taken (slice_get taken.universes (u - 1))
