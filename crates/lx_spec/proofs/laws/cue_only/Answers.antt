use Rattle.lx_spec.proofs.EditedCues.{alone}
use Rattle.lx_spec.proofs.laws.cue_only.Goals as goal

pub returns : goal.returns
returns _ = λ show after edit n k c valid named is there apart range. alone show after n k c valid there apart range edit named is
