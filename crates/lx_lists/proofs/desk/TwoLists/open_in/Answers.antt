use Rattle.lx_lists.proofs.Imports.{◌∙◌, refl, ap, arith, sym, subst, Show, Kept, second_show, HasRoomForFrames}
use Rattle.lx_patch.specs.DimmerTable.{StandsForPatch}
use Rattle.lx_lists.proofs.OpenedLists.{opened_channels, opened_kept}
use Rattle.lx_lists.proofs.desk.TwoLists.open_in.Goals as goal

pub fill-requires-clause-channels : goal.fill-requires-clause-channels
fill-requires-clause-channels g c = opened_channels c.args.show c.leave_first.new.show (second_show c.args.show) c.in_ok-first.first
    c.in_ok-second.second c.leave_first.ensures refl c.in_ok-first.ensures.stands c.in_ok-second.ensures.stands

pub fill-requires-clause-room : goal.fill-requires-clause-room
fill-requires-clause-room g c = subst (λ (s : Show). HasRoomForFrames s c.in_ok-output.output)
    (sym (ap (λ (k : Kept). k.show) c.in_ok-first.ensures.stands.same)) c.in_ok-output.ensures.room

pub fill-requires-clause-patch : goal.fill-requires-clause-patch
fill-requires-clause-patch g c = subst (λ (s : Show). StandsForPatch s.patch c.in_ok-output.output.kept.table)
    (sym (ap (λ (k : Kept). k.show) c.in_ok-first.ensures.stands.same)) c.in_ok-output.ensures.patch

pub invariant_of-result : goal.invariant_of-result
invariant_of-result g c = opened_kept c.args.show c.leave_first.new.show (second_show c.args.show) c.in_ok-first.first
    c.in_ok-second.second c.fill.new.self c.leave_first.ensures refl c.in_ok-first.ensures.stands
    c.in_ok-second.ensures.stands c.fill.ensures

pub returns-clause-cause : goal.returns-clause-cause
returns-clause-cause g c =
    let kept = c.in_ok-first.ensures.cause.kept ∙ c.in_ok-output.ensures.cause.kept ∙ c.in_ok-second.ensures.cause.kept in
    record { later = omega (arith, kept); kept = kept; failed = tt }
