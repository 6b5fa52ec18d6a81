use Rattle.lx_reader.proofs.Imports.{◌∙◌, sym, subst, IfOk, IsTime}
use Rattle.lx_spec.proofs.ValidLines.{time_in_range}
use Rattle.lx_reader.proofs.numbers.time_at.Goals as goal

pub returns-in-Ok-clause-time : goal.returns-in-Ok-clause-time
returns-in-Ok-clause-time c = subst (λ v. IfOk v IsTime) (sym c.read_time.ensures ∙ c.in-Ok.is) (time_in_range c.args.token.now)
