-- Ticks one after another.
use Rattle.std.specs.Prelude.{ℕ, zero, suc, Result, Ok}
use Rattle.lx_spec.specs.declared.Command.TheVariants as commands
use Rattle.lx_spec.specs.declared.Refusal.{Refusal}
use Rattle.lx_spec.specs.FirstRefusal.{◌>>=◌}
use Rattle.lx_spec.specs.Desk.{Desk, step}

-- the desk after this many ticks, or the refusal of the first that isn't accepted
abbrev pub after_ticks : ℕ → Desk → Result Desk Refusal
after_ticks zero d = Ok d
after_ticks (suc n) d = do
  next ← step d commands.Tick
  after_ticks n next
