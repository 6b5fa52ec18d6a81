use Rattle.lx_sheet.proofs.Imports.{◌≡◌, ℕ, ◌+◌, ◌*◌, ◌≤◌, List, length, take, below_more, below_none, sym, ap, ◌∙◌, inl, inr, arith, rules, cases_eq}
use Rattle.lx_sheet.proofs.Imports.{with_items_is, All-from_recursion, get_or, get_or_default, Cue, ValidCue, Marks, cell, level_in_look, width}
use Rattle.lx_sheet.proofs.Imports.{level_after, tracked_on}
use Rattle.std.proofs.lemmas.Grind.{common_steps}
use Rattle.lx_sheet.proofs.LevelsAfter.{level_after-nil, level_after-take}
use Rattle.lx_sheet.proofs.MarkedRows.{grown_on, moves_within, reached_grown}
use Rattle.lx_sheet.proofs.opening.fill_all.Goals as goal

pub loop-place-init : goal.loop-place-init
loop-place-init c =
    record {
      look = λ x. let zero : level_in_look c.fill.new.self x ≡ 0 = grind (arith, common_steps) in zero ∙ sym (level_after-nil x);
      levels = λ k less. absurd (omega arith);
      long = omega arith;
      room = omega arith;
      table = search rules;
      reach = λ r less. absurd (omega arith);
      marks = λ k cue less. absurd (omega arith);
    }

pub write-requires-clause-moves : goal.write-requires-clause-moves
write-requires-clause-moves c =
    let n : ℕ = length c.args.look.now in
    moves_within n (64 * c.reach-in-loop-place.new.self.groups) c.index-cues-place.result
    (omega (arith, c.requires.table.groups, c.loop-place.invariant.table.groups, c.reach-in-loop-place.ensures.table.groups))
    (rw c.index-cues-place.is (All-from_recursion (ValidCue n) c.args.cues.now c.requires.valid c.loop-place.place _
    c.loop-place-test.true))

pub track-requires : goal.track-requires
track-requires c = rw (c.loop-place.auto.look ∙ c.fill.auto.self, c.index-cues-place.is)
    (All-from_recursion (ValidCue (length c.args.look.now)) c.args.cues.now c.requires.valid c.loop-place.place _ c.loop-place-test.true)

pub loop-place-preserved : goal.loop-place-preserved
loop-place-preserved c =
    let n : ℕ = length c.args.look.now in
    let cues : List Cue = c.args.cues.now in
    let place : ℕ = c.loop-place.place in
    let cue : Cue = c.index-cues-place.result in
    let look : List ℕ = c.track.new.look in
    let same : length look ≡ n = omega arith in
    let filled : List ℕ = c.write_row.new.levels in
    let whole = with_items_is c.reach.new.levels filled (omega arith) in
    let reached : Marks = c.reach-in-loop-place.new.self in
    let wide : n ≤ 64 * reached.groups = omega
    (arith, c.requires.table.groups, c.loop-place.invariant.table.groups, c.reach-in-loop-place.ensures.table.groups) in
    let tracks : (x : ℕ) → level_in_look look x ≡ level_after (take (place + 1) cues) x =
    λ x. c.track.ensures x ∙ ap (tracked_on cue x) (c.loop-place.invariant.look x)
    ∙ sym (level_after-take cues place cue x c.loop-place-test.true c.index-cues-place.is) in
    let here = rw same at c.write_row.ensures.here in
    let others = rw (same, c.deref_mut.ensures.value) at c.write_row.ensures.others in
    record {
      look = tracks;
      levels = rw whole
          (below_more (λ k. (x : ℕ) → cell n filled k x ≡ level_after (take (k + 1) cues) x) place
          (λ k less x. others k x (λ e. omega arith) ∙ (rw same at c.reach.ensures.same) k x ∙ c.loop-place.invariant.levels k less x)
          (λ x. here x ∙ tracks x));
      long = omega
          (arith, ap length whole, c.loop-place.invariant.long, c.reach.ensures.length, ap (λ m. (place + 1) * width m) same);
      room = omega (arith, c.loop-place.invariant.room, c.reach.ensures.room);
      table = grown_on (grown_on c.loop-place.invariant.table c.reach-in-loop-place.ensures.table) c.write.ensures.table;
      reach = λ r less. reached_grown r c.write.ensures.table (c.reach-in-loop-place.ensures.reach r less);
      marks = λ k x less is. elim (cases_eq k place) [
        | inl e ↦
            let one : x ≡ cue = is ∙ get_or_default cues k x cue (omega arith) ∙ ap (λ i. get_or cues i cue) e
            ∙ sym c.index-cues-place.is in
            rw (e, one) (λ chan least most. c.write.ensures.here chan least (omega (arith, most, wide)))
        | inr apart ↦ λ chan least most decided. c.write.ensures.others k chan apart least (omega (arith, most, wide))
            ∙ c.reach-in-loop-place.ensures.same k chan ∙ c.loop-place.invariant.marks k x (omega arith) is chan least most decided
      ];
    }
