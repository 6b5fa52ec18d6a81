use Rattle.lx_text_laws.proofs.LookLevels.{look_levels}
use Rattle.lx_text_laws.proofs.looks.Goals as goal

pub returns : goal.returns
returns _ = look_levels
