-- The slots of a universe.
use Rattle.std.specs.Prelude.{ℕ, ◌-◌, ◌*◌, List, take, drop}
use Rattle.lx_base.specs.declared.TheConstants.{UNIVERSE_SLOTS}

-- the slots of a universe, from the slots of all dimmers
abbrev pub universe : ℕ → List ℕ → List ℕ
universe u slots = take UNIVERSE_SLOTS (drop (UNIVERSE_SLOTS * (u - 1)) slots)
