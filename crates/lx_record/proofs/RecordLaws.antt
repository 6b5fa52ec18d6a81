-- The laws of records.
use Rattle.lx_record.proofs.Imports.{◌≡◌, ◌≢◌, ◌<◌, ℕ, Bool, true, false, cond, not, Some, None, Ok, Err, refl, ◌∙◌, sym, ap, subst, inl}
use Rattle.lx_record.proofs.Imports.{inr, arith, Option, Result, IsTrue, is_some, ◌==◌, ◌||◌, nat_lt, length, option_and_then, unwrap_or, cases_Bool}
use Rattle.lx_record.proofs.Imports.{nat_tests, CUES, Refusal, Cue, Show, Valid, InRange, cue_of, move_of, move_in, tracked}
use Rattle.lx_record.proofs.Imports.{new_cue, with_cue, cue_only, with_recorded, on_stage, kept, kept_alone, ok_is}
use Rattle.lx_record.proofs.Imports.{entry_at-placed_here, entry_at-placed_other, cue_or_new, around, around_number, tracked_below}
use Rattle.lx_record.specs.Laws.{LawOfRecords}
use Rattle.lx_record.proofs.RecordedCues.{recorded_cue, recorded_number, stage_move, move_in-recorded, recorded_is, recorded_full, level_recorded}
use Rattle.lx_record.proofs.RecordedCues.{only_has}

-- the move of a channel in the cue that is there, or in a new one
move_or_new : (n c : ℕ) (o : Option Cue) → move_in (unwrap_or o (new_cue n)) c ≡ option_and_then (λ cue. move_in cue c) o
move_or_new n c None = refl
move_or_new n c (Some cue) = refl

at_level : (a b : ℕ) → a ≡ b → not (a == b) ≡ false
at_level a b same = grind (arith, nat_tests)

module _ (levels : ℕ → ℕ) (before : Show) (n c : ℕ) (only : Bool) (show : Show) (valid : Valid before)
    (is : with_recorded levels before n only ≡ Ok show) (range : InRange before.channels c) where
  -- what an accepted record comes to
  accepted_is : cue_only only before n (with_cue before (recorded_cue levels before n)) ≡ show
  accepted_is = elim (cases_Bool (is_some (cue_of before n) || nat_lt (length before.cues) CUES)) [
    | inl room ↦ ok_is _ show (sym (recorded_is levels before n only valid.cues_sorted room) ∙ is)
    | inr full ↦ let never : ◌≡◌ {A = Result Show Refusal} (Err _) (Ok show) = sym (recorded_full levels before n only full) ∙ is in cc
  ]

  -- what holds of the show with the recorded cue, and with a cue above it too, holds of what it comes to
  holds : (P : Show → Type 0) → P (with_cue before (recorded_cue levels before n))
      → ((x : Cue) → n < x.number → P (with_cue (with_cue before (recorded_cue levels before n)) x)) → P show
  holds P here above = subst P accepted_is (only_has P before (with_cue before (recorded_cue levels before n)) n only here (λ x less.
      above (kept before (with_cue before (recorded_cue levels before n)) x) less))

  levels_at : tracked show n c ≡ levels c
  levels_at =
      let here = level_recorded levels before n c valid.cues_sorted range in
      holds (λ s. tracked s n c ≡ levels c) here (λ x less.
      tracked_below (with_cue before (recorded_cue levels before n)) x.number n c (Some x) refl less ∙ here)

  moves_kept : levels c ≡ tracked before n c → move_of show n c ≡ move_of before n c
  moves_kept same =
      let key : Cue → ℕ = λ x. x.number in
      let new : Cue = recorded_cue levels before n in
      let here = entry_at-placed_here key n new before.cues (recorded_number levels before n) in
      let there : cue_of show n ≡ Some new = holds (λ s. cue_of s n ≡ Some new) here (λ x less.
      entry_at-placed_other key n x (with_cue before new).cues (λ e. omega (arith, e, less)) ∙ here) in
      ap (λ (o : Option Cue). option_and_then (λ cue. move_in cue c) o) there
      ∙ move_in-recorded levels before n c (cue_or_new before n) range
      ∙ ap (λ b. cond b (Some (stage_move levels (cue_or_new before n) c)) (move_in (cue_or_new before n) c))
      (at_level (levels c) (tracked before n c) same)
      ∙ move_or_new n c (cue_of before n)

  alone_at : only ≡ true → (k : ℕ) → IsTrue (is_some (cue_of before k)) → k ≢ n → tracked show k c ≡ tracked before k c
  alone_at alone k there apart = ap (λ (s : Show). tracked s k c) (sym (rw alone at accepted_is))
      ∙ kept_alone before (with_cue before (recorded_cue levels before n)) n k c _ _ _ _ (around_number before n valid.cues_sorted)
      (around before n (Some (recorded_cue levels before n)) valid.cues_sorted (recorded_number levels before n)) range apart there

pub law_of_records : LawOfRecords
law_of_records = record {
  levels = λ d n c only show valid is range. levels_at (on_stage d) d.show n c only show valid is range;
  moves = λ d n c only show valid is range same. moves_kept (on_stage d) d.show n c only show valid is range same;
  alone = λ d n k c show valid is there apart range. alone_at (on_stage d) d.show n c true show valid is range refl k there apart;
}
