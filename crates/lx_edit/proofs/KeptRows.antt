-- Cue only: from the cue above the edited one on, each channel keeps its level.
use Rattle.lx_edit.proofs.Imports.{◌≡◌, ℕ, ◌<◌, ◌==◌, not, true, Some, None, refl, ◌∙◌, sym, ap, subst, arith, Option, IfSome, is_some}
use Rattle.lx_edit.proofs.Imports.{option_to_list, AllByRecursion, IsStrictlySorted, entries_below, entries_above, Cue, InRange, Show, ValidCue}
use Rattle.lx_edit.proofs.Imports.{cue_of, tracked, cue_above, cue_only, with_cue, with_moves, moves_for, entries_up_to, FoundCue, changed_show}
use Rattle.lx_edit.proofs.Imports.{CanPlace, IsAbove, KeepsAbove, IsStrictlySorted-filter, all_above, all_below}
use Rattle.lx_edit.proofs.KeptLevels.{above_fits, above_is, cue_only_is}
use Rattle.lx_edit.proofs.SameLists.{exchanged_parts, found_here, sorted_exchanged}
use Rattle.lx_edit.proofs.Walks.{later, above_exchanged, same_show, tracked_on}
use Rattle.lx_spec.proofs.CueOnly.{IsAround, kept_alone}

all_given : (n : ℕ) (new : Option Cue) → IfSome new (λ cue. cue.number ≡ n) → AllByRecursion (λ cue. cue.number ≡ n) (option_to_list new)
all_given n None number = tt
all_given n (Some cue) number = (number, tt)

-- the cues around a changed one
pub around : (show : Show) (n : ℕ) (new : Option Cue) → IsStrictlySorted (λ x. x.number) show.cues → IfSome new (λ cue. cue.number ≡ n)
    → IsAround n (changed_show show n new).cues (entries_below (λ x. x.number) n show.cues) (option_to_list new)
    (entries_above (λ x. x.number) n show.cues)
around show n new sorted number = record {
  is = exchanged_parts (λ (x : Cue). x.number) n new show.cues number sorted;
  low = all_below (λ (x : Cue). x.number) n show.cues;
  at = all_given n new number;
  high = all_above (λ (x : Cue). x.number) n show.cues;
  sorted = IsStrictlySorted-filter (λ (x : Cue). x.number) _ show.cues sorted;
}

-- and around a number
pub around_number : (show : Show) (n : ℕ) → IsStrictlySorted (λ x. x.number) show.cues
    → IsAround n show.cues (entries_below (λ x. x.number) n show.cues) (option_to_list (cue_of show n))
    (entries_above (λ x. x.number) n show.cues)
around_number show n sorted = subst (λ (s : Show). IsAround n s.cues (entries_below (λ x. x.number) n show.cues) (option_to_list (cue_of show n))
    (entries_above (λ x. x.number) n show.cues)) (same_show show n sorted)
    (around show n (cue_of show n) sorted (found_here (λ (x : Cue). x.number) n show.cues))

-- the cue above with the moves that keep its levels
pub record IsKept (show : Show) (n : ℕ) (new : Option Cue) (kept : Cue) : Type 0 where
  pub above : with_cue (changed_show show n new) kept ≡ cue_only true show n (changed_show show n new)
  pub fits : CanPlace (changed_show show n new) kept
  pub higher : IsAbove show n kept
  pub keeps : KeepsAbove show (changed_show show n new) n kept

pub kept_is : {show : Show} {n : ℕ} {old above : Cue} (new : Option Cue) (kept : Cue) → FoundCue show n old
    → IfSome new (λ cue. cue.number ≡ n) → cue_above show n ≡ Some above → ValidCue show.channels kept
    → kept ≡ with_moves above (moves_for show (λ c. not (tracked show above.number c == tracked (changed_show show n new) above.number c))
    (tracked show above.number)) → IsKept show n new kept
kept_is {show} {n} {old} {above} new kept here number is valid same =
    let key : Cue → ℕ = λ x. x.number in
    let sorted = here.valid_show.cues_sorted in
    let after : Show = changed_show show n new in
    let own : kept.number ≡ above.number = ap key same in
    let up : IsAbove show n kept = above_is show n above kept sorted own is in
    let higher : n < kept.number = up.higher in
    let only : with_cue after kept ≡ cue_only true show n after = ap (with_cue after) same ∙ sym (cue_only_is show n new (Some above) number is) in
    let at : (c : ℕ) → InRange show.channels c → tracked (with_cue after kept) kept.number c ≡ tracked show kept.number c = λ c range.
    ap (λ (s : Show). tracked s kept.number c) only ∙ kept_alone show after n kept.number c _ _ _ _ (around_number show n sorted)
    (around show n new sorted number) range (λ e. omega (arith, higher, e)) up.there in
    let rest : (m : ℕ) → later (with_cue after kept) kept.number m ≡ later show kept.number m = λ m. ap (entries_up_to key m)
    (above_exchanged key kept.number kept.number (Some kept) after.cues (omega arith) refl
    ∙ above_exchanged key n kept.number new show.cues (omega (arith, higher)) number) in
    record {
      above = only;
      fits = above_fits show n new above kept sorted number is own valid;
      higher = up;
      keeps = record {
        cue = ap is_some here.found;
        above = up.there;
        higher = higher;
        levels = λ m c range le. tracked_on (with_cue after kept) kept.number c
            (sorted_exchanged key kept.number (Some kept) after.cues (sorted_exchanged key n new show.cues sorted)) m le
            ∙ rw (at c range, rest m) (sym (tracked_on show kept.number c sorted m le));
      };
    }
