use Rattle.lx_spec.proofs.EditedCues.{same_everywhere}
use Rattle.lx_spec.proofs.laws.block.Goals as goal

pub returns : goal.returns
returns _ = λ show after edit k c valid blocks is range. same_everywhere show after edit k c valid blocks is range
