use Rattle.lx_text_laws.proofs.FinerShow.{old_texts}
use Rattle.lx_text_laws.proofs.old_texts.Goals as goal

pub returns : goal.returns
returns _ = old_texts
