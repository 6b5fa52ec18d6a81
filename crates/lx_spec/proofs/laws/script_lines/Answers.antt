use Rattle.lx_spec.proofs.ValidLines.{line_of-valid}
use Rattle.lx_spec.proofs.laws.script_lines.Goals as goal

pub returns : goal.returns
returns _ = λ line. line_of-valid line
