use Rattle.lx_spec.proofs.RestKept.{level-replay}
use Rattle.lx_spec.proofs.laws.forgotten_runs.Goals as goal

pub returns : goal.returns
returns _ = λ opening done show c y late. level-replay opening done show c y late
