use Rattle.lx_show.proofs.Imports.{ap, refl, nat_lt, reverse, Show, ValidCue, all_reverse, find_last}
use Rattle.lx_show.proofs.StoredShows.{lent_valid}
use Rattle.lx_show.proofs.show.Show.cue_below.Goals as goal

pub returns-clause-below : goal.returns-clause-below
returns-clause-below c =
    rw (← c.get.ensures.value, c.last.ensures.value, c.below.ensures, find_last, c.as_slice.ensures.value, ap (λ (s : Show). s.cues) c.self.view_is) refl

pub returns-clause-valid : goal.returns-clause-valid
returns-clause-valid c = lent_valid ValidCue _ (λ cue. nat_lt cue.number c.get.result) _ c.self.view_is (ap reverse c.as_slice.ensures.value)
    (rw (c.last.ensures.value, c.below.ensures) (find_last _ c.as_slice.result.now)) (all_reverse _ _ c.self.invariant.valid.cues)
