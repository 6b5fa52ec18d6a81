use Rattle.lx_desk.proofs.Imports.{◌+◌, ap, ℕ, ◌*◌, ◌%◌}
use Rattle.lx_desk.specs.Generator.{after_draw}
use Rattle.lx_desk.proofs.draws.Draws.draw.Goals as goal

pub returns-clause-next : goal.returns-clause-next
unfolding after_draw
returns-clause-next c = ap (λ (x : ℕ). (1103515245 * x + 12345) % 2147483648) c.from.ensures
