-- What is left to be mended of a sheet: its columns, and the marks of the cues that were placed.
use Rattle.lx_edit.proofs.Imports.{◌≡◌, ◌≢◌, ℕ, ◌≤◌, true, false, Some, None, refl, ◌∙◌, sym, ap, subst, inl, inr}
use Rattle.lx_edit.proofs.Imports.{Option, IfSome, IsTrue, is_some, ◌||◌, cases_eq, Move, Cue, Show, cue_of, decides, move_in, tracked, with_cue}
use Rattle.lx_edit.proofs.Imports.{entry_at-placed_here, entry_at-placed_other, Sheet, is_marked, level_of, numbers_of, IsMarked, IsMarkedAt, cue_numbers}
use Rattle.lx_edit.proofs.Imports.{ChanSet, CanMend, IsPast, KeepsLevels, Replaced, with_move, with_move_in, IsSomeAnd}
use Rattle.std.proofs.lemmas.Option.{IfSome_then}
use Rattle.lx_edit.proofs.ChangedColumns.{alike_past, numbers_with, others_changed}
use Rattle.lx_edit.proofs.PlacedMoves.{Moved, moved_is}
use Rattle.lx_edit.proofs.Walks.{tracked_below}

-- The marks of the other cues are as before, and those of a cue that was placed are right.
pub marked_with : (before show : Show) (sheet other : Sheet) (cue : Cue) (n : ℕ) → show ≡ with_cue before cue → cue.number ≡ n
    → IsMarked before sheet → ((m c : ℕ) → m ≢ n → is_marked other m c ≡ is_marked sheet m c) → IsMarkedAt show other n
    → IsMarked show other
marked_with before show sheet other cue n is number marked others here m = elim (cases_eq m n) [
  | inl at ↦ subst (IsMarkedAt show other) (sym at) here
  | inr apart ↦
      let same : cue_of show m ≡ cue_of before m = ap (λ (s : Show). cue_of s m) is
      ∙ entry_at-placed_other (λ (x : Cue). x.number) m cue before.cues (λ e. apart (sym e ∙ number)) in
      subst (λ (o : Option Cue). IfSome o (λ x. (c : ℕ) → decides x c ≡ true → is_marked other m c ≡ true)) (sym same)
      (IfSome_then (cue_of before m) (marked m) (λ x right c decided. others m c apart ∙ right c decided))
]

still_decides : (cue : Cue) (entry old : Move) (c : ℕ) → move_in cue entry.chan ≡ Some old → decides (with_move cue entry) c ≡ true
    → decides cue c ≡ true
still_decides cue entry old c was is = elim (cases_eq c entry.chan) [
  | inl here ↦ subst (λ k. decides cue k ≡ true) (sym here)
      (rw was (elim cue.block as (λ b. (b || true) ≡ true) [ true ↦ refl | false ↦ refl ]))
  | inr other ↦ rw (← entry_at-placed_other (λ (m : Move). m.chan) c entry cue.moves (λ e. other (sym e))) is
]

-- a cue that moved the channel before keeps its marks
pub marked_moved : (show after : Show) (sheet : Sheet) (n : ℕ) (entry old : Move) → Moved show n → after ≡ with_move_in show n entry
    → IsSomeAnd (cue_of show n) (λ x. move_in x entry.chan ≡ Some old) → IsMarked show sheet → IsMarked after sheet
marked_moved show after sheet n entry old m is was marked =
    let new : Cue = with_move m.cue entry in
    let after_is : after ≡ with_cue show new = is ∙ moved_is show n entry m.cue m.found in
    let had : (c : ℕ) → decides m.cue c ≡ true → is_marked sheet n c ≡ true = rw m.found at (marked n) in
    let now : cue_of after n ≡ Some new = ap (λ (s : Show). cue_of s n) after_is
    ∙ entry_at-placed_here (λ (x : Cue). x.number) n new show.cues m.number in
    marked_with show after sheet sheet new n after_is m.number marked (λ k c apart. refl)
    (rw now (λ c decided. had c (still_decides m.cue entry old c (rw m.found at was) decided)))

-- a channel that isn't marked sees no difference where a cue was put in the place of another
pub others_replaced : (show : Show) (sheet : Sheet) (n : ℕ) (chans : ChanSet) (w : Replaced show sheet n chans) → KeepsLevels w.before show chans
others_replaced show sheet n chans w =
    others_changed w.before show n (Some w.cue) chans w.valid w.is (subst (λ (k : ℕ). 1 ≤ k) w.number w.least) w.number w.same

-- and what is left to be mended
pub left_replaced : (show : Show) (sheet other : Sheet) (n : ℕ) (chans : ChanSet) → Replaced show sheet n chans
    → ((m c : ℕ) → level_of other m c ≡ level_of sheet m c) → numbers_of other ≡ numbers_of sheet → other.channels ≡ sheet.channels
    → IsMarked show other → CanMend show other n None chans
left_replaced show sheet other n chans w levels numbers channels marks =
    let there : IsTrue (is_some (cue_of w.before w.cue.number)) =
    subst (λ (k : ℕ). IsTrue (is_some (cue_of w.before k))) (sym w.number) w.there in
    let stood : (x m : ℕ) → level_of other m x ≡ tracked w.before m x = λ x m. levels m x ∙ w.stood.columns x m in
    record {
      channels = channels ∙ w.stood.channels ∙ sym (ap (λ (s : Show). s.channels) w.is);
      numbers = numbers ∙ w.stood.numbers ∙ sym (ap cue_numbers w.is ∙ numbers_with w.before w.cue w.valid there);
      below = λ x m less. stood x m
          ∙ sym (ap (λ (s : Show). tracked s m x) w.is ∙ tracked_below w.before n m x (Some w.cue) w.number less);
      later = λ x m past. stood x m
          ∙ alike_past w.before w.cue n m x w.valid w.number (subst (λ (s : Show). IsPast None s n x m) w.is past)
          ∙ sym (ap (λ (s : Show). tracked s m x) w.is);
      others = λ x out m. stood x m ∙ (others_replaced show sheet n chans w x out).levels m;
      marks = marks;
    }
