-- A record of one cue alone: the moves by which the cue above it keeps its levels.
use Rattle.lx_record.proofs.Imports.{◌≡◌, ℕ, zero, suc, ◌+◌, ◌≤◌, Bool, true, false, cond, not, List, [], ◌∷◌, map}
use Rattle.lx_record.proofs.Imports.{Some, None, refl, ◌∙◌, sym, ap, arith, Option, filter, ◌==◌, ◌&&◌, option_map}
use Rattle.lx_record.proofs.Imports.{if◌then◌else◌, option_map_or, AllByRecursion, range_with_len, nat_tests, IsStrictlySorted}
use Rattle.lx_record.proofs.Imports.{Cue, Show, InRange, cue_above, tracked, decides, level_in, with_cue, with_moves, cue_only}
use Rattle.lx_record.proofs.Imports.{kept_above, channels_of, kept, each, comes_out_changed, kept_cue, with_above, IsStrictlySorted-placed}
use Rattle.lx_record.proofs.Imports.{through, above-tracked, cue_above-changed, cue_only_is}
use Rattle.lx_record.proofs.RecordedCues.{recorded_cue, recorded_number, level_recorded}

-- tests that agree on all of them keep the same
filter_same : {A : Type 0} (p q : A → Bool) (xs : List A) → AllByRecursion (λ x. p x ≡ q x) xs → filter p xs ≡ filter q xs
filter_same p q [] all = refl
filter_same p q (x ∷ xs) all = rw (all.0, filter_same p q xs all.1) refl

in_range_from : (a n top : ℕ) → 1 ≤ a → a + n ≤ top + 1 → AllByRecursion (InRange top) (range_with_len a n)
in_range_from a zero top least within = tt
in_range_from a (suc n) top least within =
    (record { least = least; most = omega arith }, in_range_from (a + 1) n top (omega arith) (omega arith))

self_same : (a : ℕ) → not (a == a) ≡ false
self_same a = grind (arith, nat_tests)

-- whether the level at the next cue is changed, by whether it decides
changed_by : (d : Bool) (l a b x y : ℕ) → x ≡ cond d l a → y ≡ cond d l b → (not d && not (x == b)) ≡ not (x == y)
changed_by true l a b x y x_is y_is = sym (ap (λ z. not (x == z)) (y_is ∙ sym x_is) ∙ self_same x)
changed_by false l a b x y x_is y_is = ap (λ z. not (x == z)) (sym y_is)

module _ (levels : ℕ → ℕ) (show : Show) (n : ℕ) (sorted : IsStrictlySorted (λ y. y.number) show.cues) where
  changed_at : (c : ℕ) (x : Cue) → cue_above show n ≡ Some x → InRange show.channels c → comes_out_changed levels show x c
      ≡ not (tracked show x.number c == tracked (with_cue show (recorded_cue levels show n)) x.number c)
  changed_at c x is range =
      let new : Cue = recorded_cue levels show n in
      changed_by (decides x c) (level_in x c) (tracked show n c) (levels c) (tracked show x.number c) (tracked (with_cue show new) x.number c)
      (above-tracked show n x c sorted is)
      (above-tracked (with_cue show new) n x c (IsStrictlySorted-placed (λ (y : Cue). y.number) new show.cues sorted)
      (cue_above-changed show n (Some new) (recorded_number levels show n) ∙ is)
      ∙ ap (λ l. through c l x) (level_recorded levels show n c sorted range))

  kept_same : (x : Cue) → cue_above show n ≡ Some x → kept show (with_cue show (recorded_cue levels show n)) x ≡ kept_cue levels show x
  kept_same x is = ap (λ (cs : List ℕ). with_moves x (map (λ c. record { chan = c; part = 1; level = tracked show x.number c }) cs))
      (sym (filter_same (comes_out_changed levels show x) _ (channels_of show)
      (each (InRange show.channels) _ (channels_of show) (λ c range. changed_at c x is range)
      (in_range_from 1 show.channels show.channels (omega arith) (omega arith)))))

  only_step : (o : Option Cue) → cue_above show n ≡ o
      → option_map_or (kept_above show (with_cue show (recorded_cue levels show n))) o (with_cue show (recorded_cue levels show n))
      ≡ with_above (option_map (kept_cue levels show) o) (with_cue show (recorded_cue levels show n))
  only_step None is = refl
  only_step (Some x) is = ap (with_cue (with_cue show (recorded_cue levels show n))) (kept_same x is)

-- the cue above the recorded one, with its moves
abbrev pub above_kept : (ℕ → ℕ) → Show → ℕ → Bool → Option Cue
above_kept levels show n only = if only then option_map (kept_cue levels show) (cue_above show n) else None

pub only_is : (levels : ℕ → ℕ) (show : Show) (n : ℕ) (only : Bool) → IsStrictlySorted (λ y. y.number) show.cues
    → cue_only only show n (with_cue show (recorded_cue levels show n))
    ≡ with_above (above_kept levels show n only) (with_cue show (recorded_cue levels show n))
only_is levels show n false sorted = refl
only_is levels show n true sorted =
    cue_only_is show n (Some (recorded_cue levels show n)) (cue_above show n) (recorded_number levels show n) refl
    ∙ only_step levels show n sorted (cue_above show n) refl
