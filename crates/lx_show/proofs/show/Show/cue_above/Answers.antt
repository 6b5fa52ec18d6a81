use Rattle.lx_show.proofs.Imports.{ap, refl, nat_lt, Show, ValidCue, find_first}
use Rattle.lx_show.proofs.StoredShows.{lent_valid}
use Rattle.lx_show.proofs.show.Show.cue_above.Goals as goal

pub returns-clause-above : goal.returns-clause-above
returns-clause-above c =
    rw (← c.get.ensures.value, c.first.ensures.value, c.above.ensures, find_first, c.as_slice.ensures.value, ap (λ (s : Show). s.cues) c.self.view_is) refl

pub returns-clause-valid : goal.returns-clause-valid
returns-clause-valid c = lent_valid ValidCue _ (λ cue. nat_lt c.get.result cue.number) _ c.self.view_is c.as_slice.ensures.value
    (rw (c.first.ensures.value, c.above.ensures) (find_first _ c.as_slice.result.now)) c.self.invariant.valid.cues
