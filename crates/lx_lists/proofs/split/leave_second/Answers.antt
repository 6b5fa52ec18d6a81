use Rattle.lx_lists.proofs.Imports.{◌<◌, ap, sym, subst, ◌∙◌, length, Show, second_show}
use Rattle.lx_lists.proofs.ListCues.{one_less, second_left}
use Rattle.lx_lists.proofs.split.leave_second.Goals as goal

pub loop-n-smaller-in-Some : goal.loop-n-smaller-in-Some
loop-n-smaller-in-Some c =
    subst (λ (s : Show). length s.cues < length c.loop-n.show.cues) (sym c.take_cue.ensures.others)
    (one_less (λ x. x.number) c.in-Some.n c.loop-n.show.cues c.in-Some.ensures.there)

pub loop-n-preserved-in-Some : goal.loop-n-preserved-in-Some
loop-n-preserved-in-Some c =
    ap second_show c.take_cue.ensures.others ∙ second_left c.loop-n.show c.in-Some.n c.in-Some.ensures.below ∙ c.loop-n.invariant
