-- Channels that are under way, as time goes on.
use Rattle.lx_levels.proofs.Imports.{◌≡◌, ◌≢◌, ℕ, ◌+◌, ◌<◌, ◌≤◌, List, length, arith, get_or, set, get_or-set_other, get_or-set_same, replicate, lit<}
use Rattle.lx_levels.proofs.Imports.{refl, ◌∙◌, ap, sym, subst, inl, inr, get_or-replicate, length-set, cases_eq, NEVER, Stack, stack_level, no_stack}
use Rattle.lx_levels.proofs.Imports.{Governs, StaysUntil, Place, place_of, IsHeld, IsTold, LevelsReach, IsRight, IsRightAt, IsRightBut, IsWritten}
use Rattle.lx_levels.proofs.Imports.{IsAdvanced, Motion, IsElsewhere}

-- the level that is kept is that of the stack
pub level_now : {m : ℕ} {stack : Stack} {place : Place} → IsTold m stack place → place.level ≡ stack_level stack m
level_now told = sym (told.held.stays _ (omega arith) (inl told.later))

-- a channel's place written where another was
module _ {k : ℕ} {before after : Motion} (is : IsWritten k before after) where
  pub written_reach : {n : ℕ} → LevelsReach n before → LevelsReach n after
  written_reach reaches = record {
    few = reaches.few;
    of_currents = ap length is.currents ∙ length-set before.currents.items k is.place.current ∙ reaches.of_currents;
    of_levels = ap length is.levels ∙ length-set before.levels.items k is.place.level ∙ reaches.of_levels;
    of_holds = ap length is.holds ∙ length-set before.holds.items k is.place.hold ∙ reaches.of_holds;
  }

  pub written_other : {i : ℕ} → i ≢ k → place_of before i ≡ place_of after i
  written_other {i} other = simp (is.currents, is.levels, is.holds, get_or-set_other)

  pub written_here : {n : ℕ} → LevelsReach n before → k < n → is.place ≡ place_of after k
  written_here reaches within =
      let in_currents : k < length before.currents.items = omega (arith, within, reaches.of_currents) in
      let in_levels : k < length before.levels.items = omega (arith, within, reaches.of_levels) in
      let in_holds : k < length before.holds.items = omega (arith, within, reaches.of_holds) in
      simp (is.currents, is.levels, is.holds, get_or-set_same)

  -- it is told, and the others are held as before
  pub told_here : {m n : ℕ} {stack : Stack} → LevelsReach n before → k < n → Governs m stack is.place.current
      → StaysUntil m stack is.place.level is.place.hold → m < is.place.hold → IsTold m stack (place_of after k)
  told_here {m} {n} {stack} reaches within governs stays later = subst (IsTold m stack) (written_here reaches within)
      (record { held = record { governs = λ some. governs; stays = stays }; later = later })

  -- the next one is
  pub advanced_next : {m : ℕ} {stacks : List Stack} → IsAdvanced m k stacks before → IsTold m (get_or stacks k no_stack) (place_of after k)
      → IsAdvanced m (k + 1) stacks after
  advanced_next {m} {stacks} advanced told = record {
    reaches = written_reach advanced.reaches;
    done = λ i below. elim (cases_eq i k) [
      | inl same ↦ subst (λ j. IsTold m (get_or stacks j no_stack) (place_of after j)) (sym same) told
      | inr other ↦ subst (IsTold m (get_or stacks i no_stack)) (written_other other) (advanced.done i (omega (arith, other)))
    ];
    left = λ i past within. subst (IsHeld m (get_or stacks i no_stack)) (written_other (λ same. absurd (omega (arith, same, past))))
        (advanced.left i (omega arith) within);
  }

  -- the channel's new stack is taken up
  pub refreshed : {m : ℕ} {stacks : List Stack} → IsRightBut m k stacks before → IsTold m (get_or stacks k no_stack) (place_of after k)
      → after.due ≤ before.due → after.due ≤ (place_of after k).hold → IsRightAt m stacks after
  refreshed {m} {stacks} but told sooner due = record {
    reaches = written_reach but.reaches;
    begun = but.begun;
    each = λ i within. elim (cases_eq i k) [
      | inl same ↦ subst (IsRight m stacks after) (sym same) (record { told = told; due = due })
      | inr other ↦ record {
        told = subst (IsTold m (get_or stacks i no_stack)) (written_other other) (but.each i within other).told;
        due = omega (arith, sooner, (but.each i within other).due, ap (λ (p : Place). p.hold) (written_other other));
      }
    ];
  }

-- what is right stays so but for a channel whose stack is changed
pub right_but : {m k : ℕ} {stacks new : List Stack} {motion : Motion} (stack : Stack) → IsRightAt m stacks motion → k < length stacks
    → new ≡ set stacks k stack → IsRightBut m k new motion
right_but {m} {k} {stacks} {new} {motion} stack right within is =
    let long : length stacks ≡ length new = sym (ap length is ∙ length-set stacks k stack) in
    record {
      reaches = subst (λ n. LevelsReach n motion) long right.reaches;
      begun = right.begun;
      within = omega (arith, within, long);
      each = λ i less other. record {
        told = rw (is, get_or-set_other stacks k i stack no_stack other) (right.each i (omega (arith, less, long))).told;
        due = (right.each i (omega (arith, less, long))).due;
      };
    }

pub elsewhere : {k moment : ℕ} {stacks new : List Stack} (stack : Stack) → new ≡ set stacks k stack
    → IsElsewhere k (record { moment = moment; stacks = stacks }) (record { moment = moment; stacks = new })
elsewhere {k} {moment} {stacks} stack is = record {
  moment = refl;
  reach = ap length is ∙ length-set stacks k stack;
  others = λ i other. rw (is, get_or-set_other stacks k i stack no_stack other) refl;
}

-- at the opening each channel is still at 0
pub opened_right : {stacks : List Stack} {motion : Motion} {n : ℕ} → LevelsReach n motion → length stacks ≡ n
    → motion.levels.items ≡ replicate n 0 → motion.holds.items ≡ replicate n NEVER → motion.due ≡ NEVER
    → ((k : ℕ) → get_or stacks k no_stack ≡ no_stack) → IsRightAt 0 stacks motion
opened_right {stacks} {motion} {n} reaches long zeros never due empty = record {
  reaches = subst (λ i. LevelsReach i motion) (sym long) reaches;
  begun = lit< tt;
  each = λ k within.
      let held = rw (← never) at (get_or-replicate {A = ℕ} n k NEVER 0 (omega (arith, long))) in
      record {
        told = record {
          held = record {
            governs = λ some. absurd (some held);
            stays = λ x from until. rw (empty k, zeros, get_or-replicate {A = ℕ} n k 0 0 (omega (arith, long))) refl;
          };
          later = omega (arith, held);
        };
        due = omega (arith, held, due);
      };
}
