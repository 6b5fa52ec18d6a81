use Rattle.lx_lists.proofs.Imports.{◌<◌, ap, sym, subst, ◌∙◌, length, Show, first_show}
use Rattle.lx_lists.proofs.ListCues.{one_less, first_left}
use Rattle.lx_lists.proofs.split.leave_first.Goals as goal

pub loop-n-smaller-in-Some : goal.loop-n-smaller-in-Some
loop-n-smaller-in-Some c =
    subst (λ (s : Show). length s.cues < length c.loop-n.show.cues) (sym c.take_cue.ensures.others)
    (one_less (λ x. x.number) c.in-Some.n c.loop-n.show.cues c.in-Some.ensures.there)

pub loop-n-preserved-in-Some : goal.loop-n-preserved-in-Some
loop-n-preserved-in-Some c =
    ap first_show c.take_cue.ensures.others ∙ first_left c.loop-n.show c.in-Some.n c.in-Some.ensures.from ∙ c.loop-n.invariant
