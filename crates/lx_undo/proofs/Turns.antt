-- The shows that kept plans make in turn, as plans come and go.
use Rattle.lx_undo.proofs.Imports.{◌≡◌, ℕ, zero, suc, ◌-◌, List, [], ◌∷◌, ◌++◌, length, take, drop, Some, Ok, Err, refl, ◌∙◌, sym}
use Rattle.lx_undo.proofs.Imports.{ap, subst, Option, Result, slice_get, option_map_or, UndoFault, NothingToUndo, NothingToRedo, Show, Kept, UndoState}
use Rattle.lx_undo.proofs.Imports.{last_of, with_show, replaced, back_to, forth_to, undo, redo, planned, IsReady, StandsFor, KeptPlans, AllReady, ReadyBack}
use Rattle.lx_undo.proofs.Imports.{ReadyForth, led_back, shows_before, shows_after, UndoKept, UndoStands, UndoSteps, seen}
use Rattle.lx_edit.specs.declared.plans.Plan.{Plan}
use Rattle.lx_edit.specs.Undone.{TakesBack}
use Rattle.lx_session.proofs.EachLine.{but_last}
use Rattle.lx_undo.proofs.Histories.{last_is, with_first, with_last}

-- One more plan behind the others.
led_more : (show : Show) (plans : List Plan) (plan : Plan) → led_back show (plans ++ plan ∷ []) ≡ led_back (planned show plan) plans
led_more show [] plan = refl
led_more show (p ∷ ps) plan = ap (λ (s : Show). planned s p) (led_more show ps plan)

before_more : (show : Show) (plans : List Plan) (plan : Plan)
    → shows_before show (plans ++ plan ∷ []) ≡ shows_before (planned show plan) plans ++ planned show plan ∷ []
before_more show [] plan = refl
before_more show (p ∷ ps) plan =
    ap (λ (s : Show). planned s p ∷ shows_before show (ps ++ plan ∷ [])) (led_more show ps plan)
    ∙ ap (λ (shows : List Show). planned (led_back (planned show plan) ps) p ∷ shows) (before_more show ps plan)

ready_more : (show : Show) (plans : List Plan) (plan : Plan) → ReadyBack (planned show plan) plans → IsReady show plan
    → ReadyBack show (plans ++ plan ∷ [])
ready_more show [] plan ready here = (here, tt)
ready_more show (p ∷ ps) plan ready here =
    (subst (λ (s : Show). IsReady s p) (sym (led_more show ps plan)) ready.0, ready_more show ps plan ready.1 here)

ready_fewer : (show : Show) (plans : List Plan) (plan : Plan) → ReadyBack show (plans ++ plan ∷ [])
    → ReadyBack (planned show plan) plans × IsReady show plan
ready_fewer show [] plan ready = (tt, ready.0)
ready_fewer show (p ∷ ps) plan ready =
    let rest = ready_fewer show ps plan ready.1 in
    ((subst (λ (s : Show). IsReady s p) (led_more show ps plan) ready.0, rest.0), rest.1)

-- The oldest ones given up.
before_drop : (n : ℕ) (show : Show) (plans : List Plan) → shows_before show (drop n plans) ≡ drop n (shows_before show plans)
before_drop zero show plans = refl
before_drop (suc n) show [] = refl
before_drop (suc n) show (p ∷ ps) = before_drop n show ps

ready_drop : (n : ℕ) (show : Show) (plans : List Plan) → ReadyBack show plans → ReadyBack show (drop n plans)
ready_drop zero show plans ready = ready
ready_drop (suc n) show [] ready = tt
ready_drop (suc n) show (p ∷ ps) ready = ready_drop n show ps ready.1

before_length : (show : Show) (plans : List Plan) → length (shows_before show plans) ≡ length plans
before_length show [] = refl
before_length show (p ∷ ps) = ap suc (before_length show ps)

before_last_of : (n : ℕ) (show : Show) (plans : List Plan) → shows_before show (last_of n plans) ≡ last_of n (shows_before show plans)
before_last_of n show plans = before_drop (length plans - n) show plans
    ∙ ap (λ k. drop (k - n) (shows_before show plans)) (sym (before_length show plans))

-- Once a change is kept.
pub ready_kept : {show after : Show} {plans new : KeptPlans} {plan : Plan} → AllReady show plans → TakesBack show after plan
    → new ≡ record plans { back = last_of plans.depth (plans.back ++ plan ∷ []); forth = [] } → AllReady after new
ready_kept {after = after} {plans} {plan = plan} ready takes is = rw is (record {
  back = ready_drop (length (plans.back ++ plan ∷ []) - plans.depth) after (plans.back ++ plan ∷ [])
      (ready_more after plans.back plan (rw takes.back ready.back) takes.ready);
  forth = tt;
})

same_show : (s : UndoState) (k : Kept) (plans : KeptPlans) → UndoStands s (seen k plans) → k.show ≡ s.desk.show
same_show s k plans stands = ap (λ (q : Kept). q.show) stands.desk.same

one_more : (s : UndoState) (k : Kept) (after : Show) (plans : KeptPlans) (plan : Plan) → UndoStands s (seen k plans)
    → planned after plan ≡ k.show → shows_before after (plans.back ++ plan ∷ []) ≡ s.back ++ s.desk.show ∷ []
one_more s k after plans plan stands back =
    before_more after plans.back plan ∙ ap (λ (x : Show). shows_before x plans.back ++ x ∷ []) back
    ∙ ap (λ (shows : List Show). shows ++ k.show ∷ []) stands.back ∙ ap (λ (x : Show). s.back ++ x ∷ []) (same_show s k plans stands)

pub stands_kept : {s : UndoState} {k now : Kept} (plans : KeptPlans) {new : KeptPlans} {made : Show} {plan : Plan} → UndoStands s (seen k plans)
    → StandsFor (with_show s.desk made) now → TakesBack k.show now.show plan
    → new ≡ record plans { back = last_of plans.depth (plans.back ++ plan ∷ []); forth = [] }
    → UndoStands (replaced s (with_show s.desk made)) (seen now new)
stands_kept {s} {k} {now} plans {plan = plan} stands desk takes is = rw is (record {
  desk = desk;
  back = before_last_of plans.depth now.show (plans.back ++ plan ∷ [])
      ∙ ap (λ n. last_of n (shows_before now.show (plans.back ++ plan ∷ []))) stands.depth
      ∙ ap (last_of s.depth) (one_more s k now.show plans plan stands takes.back);
  forth = refl;
  depth = stands.depth;
})

-- The last plan.
pub ready_last : (show : Show) (plans : List Plan) (plan : Plan) → slice_get plans (length plans - 1) ≡ Some plan → ReadyBack show plans
    → IsReady show plan
ready_last show plans plan last ready =
    (ready_fewer show (take (length plans - 1) plans) plan (subst (ReadyBack show) (sym (with_last plans plan last)) ready)).1

pub ready_undone : {show after : Show} {plans new : KeptPlans} {plan again : Plan} → slice_get plans.back (length plans.back - 1) ≡ Some plan
    → AllReady show plans → after ≡ planned show plan → TakesBack show after again
    → new ≡ record plans { back = take (length plans.back - 1) plans.back; forth = again ∷ plans.forth } → AllReady after new
ready_undone {show} {after} {plans} {plan = plan} last ready is takes new_is =
    let less : List Plan = take (length plans.back - 1) plans.back in
    rw new_is (record {
      back = subst (λ (s : Show). ReadyBack s less) (sym is)
          (ready_fewer show less plan (subst (ReadyBack show) (sym (with_last plans.back plan last)) ready.back)).0;
      forth = (takes.ready, rw takes.back ready.forth);
    })

ok_step : (step : Result UndoState UndoFault) (next : UndoState) (u : UndoKept) → step ≡ Ok next → UndoStands next u
    → UndoSteps {A = Unit {0}} step (Ok tt) u
ok_step step next u is stands = record { ok = rw is stands; err = tt }

pub steps_back : {s : UndoState} {k now : Kept} (plans : KeptPlans) {new : KeptPlans} {plan again : Plan} → UndoStands s (seen k plans)
    → slice_get plans.back (length plans.back - 1) ≡ Some plan → now.show ≡ planned k.show plan
    → StandsFor (with_show s.desk (planned k.show plan)) now → TakesBack k.show now.show again
    → new ≡ record plans { back = take (length plans.back - 1) plans.back; forth = again ∷ plans.forth }
    → UndoSteps {A = Unit {0}} (undo s) (Ok tt) (seen now new)
steps_back {s} {k} {now} plans {new} {plan} stands last is desk takes new_is =
    let made : Show = planned k.show plan in
    let less : List Plan = take (length plans.back - 1) plans.back in
    let shows : s.back ≡ shows_before made less ++ made ∷ [] =
    sym stands.back ∙ ap (shows_before k.show) (sym (with_last plans.back plan last)) ∙ before_more k.show less plan in
    let found : slice_get s.back (length s.back - 1) ≡ Some made = rw shows (last_is (shows_before made less) made) in
    let rest : take (length s.back - 1) s.back ≡ shows_before made less = rw shows (but_last (shows_before made less) made) in
    ok_step (undo s) (back_to s made) (seen now new)
    (ap (λ (o : Option Show). option_map_or (λ show. Ok (back_to s show)) o (Err NothingToUndo)) found)
    (rw new_is (record {
      desk = desk;
      back = ap (λ (x : Show). shows_before x less) is ∙ sym rest;
      forth = ap (λ (x : Show). x ∷ shows_after x plans.forth) takes.back ∙ ap (λ (xs : List Show). k.show ∷ xs) stands.forth
          ∙ ap (λ (x : Show). x ∷ s.forth) (same_show s k plans stands);
      depth = stands.depth;
    }))

pub ready_redone : {show after : Show} {plans new : KeptPlans} {plan again : Plan} → slice_get plans.forth 0 ≡ Some plan
    → AllReady show plans → after ≡ planned show plan → TakesBack show after again
    → new ≡ record plans { back = plans.back ++ again ∷ []; forth = drop 1 plans.forth } → AllReady after new
ready_redone {show} {after} {plans} {plan = plan} {again} first ready is takes new_is = rw new_is (record {
  back = ready_more after plans.back again (rw takes.back ready.back) takes.ready;
  forth = subst (λ (s : Show). ReadyForth s (drop 1 plans.forth)) (sym is)
      (subst (ReadyForth show) (sym (with_first plans.forth plan first)) ready.forth).1;
})

pub steps_forth : {s : UndoState} {k now : Kept} (plans : KeptPlans) {new : KeptPlans} {plan again : Plan} → UndoStands s (seen k plans)
    → slice_get plans.forth 0 ≡ Some plan → now.show ≡ planned k.show plan → StandsFor (with_show s.desk (planned k.show plan)) now
    → TakesBack k.show now.show again → new ≡ record plans { back = plans.back ++ again ∷ []; forth = drop 1 plans.forth }
    → UndoSteps {A = Unit {0}} (redo s) (Ok tt) (seen now new)
steps_forth {s} {k} {now} plans {new} {plan} {again} stands first is desk takes new_is =
    let made : Show = planned k.show plan in
    let shows : s.forth ≡ made ∷ shows_after made (drop 1 plans.forth) =
    sym stands.forth ∙ ap (shows_after k.show) (sym (with_first plans.forth plan first)) in
    ok_step (redo s) (forth_to s made) (seen now new)
    (ap (λ (xs : List Show). option_map_or (λ show. Ok (forth_to s show)) (slice_get xs 0) (Err NothingToRedo)) shows)
    (rw new_is (record {
      desk = desk;
      back = one_more s k now.show plans again stands takes.back;
      forth = ap (λ (x : Show). shows_after x (drop 1 plans.forth)) is ∙ sym (ap (drop 1) shows);
      depth = stands.depth;
    }))
