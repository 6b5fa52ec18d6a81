use Rattle.lx_show.proofs.Imports.{◌∙◌, ap, refl, reverse, find, List, Cue, Show, decides, find_both_last}
use Rattle.lx_show.proofs.show.Show.deciding_cue.Goals as goal

pub returns : goal.returns
returns c = c.last_deciding.ensures ∙ ap (λ (xs : List Cue). find (λ cue. decides cue c.args.c) (reverse xs)) c.up_to.ensures
    ∙ find_both_last _ _ c.as_slice.result.now
    ∙ rw (← c.get.ensures.value, c.as_slice.ensures.value, ap (λ (s : Show). s.cues) c.self.view_is) refl
