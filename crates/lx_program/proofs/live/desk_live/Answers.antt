use Rattle.lx_desk.specs.Live.{any_memory}
use Rattle.lx_program.proofs.live.desk_live.Goals as goal

pub returns-clause-ended : goal.returns-clause-ended
returns-clause-ended g c = c.desk_live_in.ensures.ended any_memory tt (λ no. absurd cc)

pub returns-clause-order : goal.returns-clause-order
returns-clause-order g c = c.desk_live_in.ensures.order any_memory tt (λ no. absurd cc)
