use Rattle.lx_text_laws.proofs.WholeText.{reads_back}
use Rattle.lx_text_laws.proofs.round_trip.Goals as goal

pub returns : goal.returns
returns _ = reads_back
