use Rattle.lx_crew.proofs.Imports.{◌≡◌, [], length, slice_get, Some, ap, sym, subst, ◌∙◌, arith, known_since, AllZip-long, View, EachAt, Learned, engine_view}
use Rattle.lx_crew.proofs.Crews.{crewed}
use Rattle.lx_crew.proofs.Rules.{totals}
use Rattle.lx_crew.proofs.Works.{ready_all, works_back, after_release, carries, retired, retired_works}
use Rattle.lx_crew.proofs.running.crew_in.Goals as goal

pub perform-output-requires-clause-view : goal.perform-output-requires-clause-view
perform-output-requires-clause-view g c κs within =
    let count : length c.as_mut_slice.result.now ≡ length c.args.operators.now =
    ap length c.as_mut_slice.ensures.value ∙ c.hire.ensures.count in
    c.hire.ensures.view ∙ ap (λ n. engine_view n [] []) (sym count)

pub perform-output-requires-clause-few : goal.perform-output-requires-clause-few
perform-output-requires-clause-few g c =
    let count : length c.as_mut_slice.result.now ≡ length c.args.operators.now =
    ap length c.as_mut_slice.ensures.value ∙ c.hire.ensures.count in
    omega (arith, count, c.requires.most)

pub perform-output-requires-clause-ready : goal.perform-output-requires-clause-ready
perform-output-requires-clause-ready g c κs within = rw c.as_mut_slice.ensures.value (ready_all _ _ _ c.hire.ensures.works)

pub release-faults-requires-clause-works : goal.release-faults-requires-clause-works
release-faults-requires-clause-works g c =
    let zip = rw c.as_mut_slice.ensures.value at c.perform-output.ensures.ran in
    let ran = retired _ _ (carries _) _ _ _ zip c.hire.ensures.works in
    rw (works_back _ c.hire.new.works.items c.perform-output.new.works c.hire.new.works.len (omega (arith, c.hire.new.works.ok.0)) zip)
    (retired_works _ _ _ _ ran)

pub release-faults-requires-clause-count : goal.release-faults-requires-clause-count
release-faults-requires-clause-count g c =
    let zip = rw c.as_mut_slice.ensures.value at c.perform-output.ensures.ran in
    ap length (works_back _ c.hire.new.works.items c.perform-output.new.works c.hire.new.works.len (omega (arith, c.hire.new.works.ok.0)) zip)
    ∙ AllZip-long _ _ _ zip ∙ c.hire.ensures.count ∙ sym c.hire.ensures.same

pub release-faults-requires-clause-pops : goal.release-faults-requires-clause-pops
release-faults-requires-clause-pops g c = ap (λ (v : View). v.pops) c.perform-output.ensures.served.view

pub release-faults-requires-clause-pushes : goal.release-faults-requires-clause-pushes
release-faults-requires-clause-pushes g c = ap (λ (v : View). v.pushes) c.perform-output.ensures.served.view

pub learn_as-requires-clause-rule : goal.learn_as-requires-clause-rule
learn_as-requires-clause-rule g c =
    totals _ _ (ap (λ (v : View). v.pops) c.release-faults.ensures.kept ∙ ap (λ (v : View). v.pops) c.perform-output.ensures.served.view)

pub returns-clause-cause : goal.returns-clause-cause
returns-clause-cause g c = c.perform-output.ensures.served.cause

pub returns-clause-handed_on : goal.returns-clause-handed_on
returns-clause-handed_on g c = c.perform-output.ensures.served.handed_on

pub returns-clause-later : goal.returns-clause-later
returns-clause-later g c =
    let room = c.room.ensures.cause.later in
    let later = c.perform-output.ensures.served.later in
    omega (arith, room, later)

pub returns-clause-crewed : goal.returns-clause-crewed
returns-clause-crewed g c = λ most known d stands.
    let zip = rw c.as_mut_slice.ensures.value at c.perform-output.ensures.ran in
    let ran = retired _ _ (carries _) _ _ _ zip c.hire.ensures.works in
    let served = c.perform-output.ensures.served in
    let works = c.perform-output.new.works in
    let same = works_back _ c.hire.new.works.items works c.hire.new.works.len (omega (arith, c.hire.new.works.ok.0)) zip in
    let size : length c.as_mut_slice.result.now ≡ length c.hire.new.works.items = ap length c.as_mut_slice.ensures.value in
    let knows = after_release _ _ (length c.as_mut_slice.result.now) served.popped _ works same served.view c.release-faults.ensures.kept in
    let learned = subst (λ (v : View). Learned v c.learn_as.ensures.rule.0) knows c.learn_as.ensures.rule.1 in
    crewed most _ _ _ _ _ d _ _ _ _ _ _ _ _ works served.popped c.learn_as.ensures.rule.0 (length c.as_mut_slice.result.now) ran
    (AllZip-long _ _ _ zip ∙ sym size) (size ∙ c.hire.ensures.count) learned served.ended
    (c.release-faults.ensures.same ∙ c.hire.ensures.same)
    (subst (λ ws. EachAt (λ k work. slice_get c.release-faults.new.operators k ≡ Some (Some work.source)) ws) same
    c.release-faults.ensures.back)
    (subst (λ ws. EachAt (λ k work. slice_get c.release-faults.result k ≡ Some work.fault) ws) same c.release-faults.ensures.faults)
    (λ place fault at. let t = c.release-faults.ensures.others place fault at in omega (arith, t, c.hire.ensures.same))
    (known_since most _ _ _ c.room.ensures.cause.later known) (served.answered d stands)
