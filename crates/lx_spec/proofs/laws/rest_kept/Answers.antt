use Rattle.lx_spec.proofs.RestKept.{kept-opened, kept-step}
use Rattle.lx_spec.proofs.laws.rest_kept.Goals as goal

pub returns : goal.returns
returns _ = record { opening = kept-opened; steps = kept-step }
