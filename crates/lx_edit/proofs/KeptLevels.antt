-- Cue only: what the cue above a changed one tracks, and what it keeps.
use Rattle.lx_edit.proofs.Imports.{◌≡◌, ℕ, ◌-◌, ◌<◌, ◌≤◌, Bool, true, false, cond, List, [], ◌∷◌, Some, None, refl, ◌∙◌, sym}
use Rattle.lx_edit.proofs.Imports.{ap, subst, inl, inr, arith, Option, IfSome, find, slice_get, not, nat_lt, ◌==◌, unwrap_or}
use Rattle.lx_edit.proofs.Imports.{cases_Bool, nat_tests, IsStrictlySorted, entry_at, DecidesOutside, filter, map, range_with_len, Move, Cue, Show, ValidCue, tracked}
use Rattle.lx_edit.proofs.Imports.{decides, level_in, cue_above, cue_of, FoundCue, decided, decided_by, Span, changed_show, covers, CanPlace, IsAbove}
use Rattle.lx_edit.proofs.Imports.{cue_only, kept_above, option_map_or, level_from, lt_from, find_first, find_has, find_passes, first_here, first_other, none_differs, some_same}
use Rattle.lx_edit.proofs.Lists.{none_past}
use Rattle.lx_edit.proofs.SameLists.{sorted_exchanged}
use Rattle.lx_edit.proofs.Walks.{through, walked, into, above_exchanged, tracked_here, tracked_at, tracked_into, tracked_on, up_to_first}

-- in a sorted list what is found is the entry of its number
found_entry : {A : Type 0} (key : A → ℕ) (p : A → Bool) (x : A) (xs : List A) → IsStrictlySorted key xs → find p xs ≡ Some x
    → entry_at key (key x) xs ≡ Some x
found_entry key p x [] sorted is = absurd (none_differs x is)
found_entry {A} key p x (y ∷ ys) sorted is = elim (cases_Bool (p y)) [
  | inl here ↦ subst (λ z. entry_at key (key z) (y ∷ ys) ≡ Some z) (some_same y x (rw here at is)) (first_here key (key y) y ys refl)
  | inr other ↦
      let rest = rw other at is in
      let more : key y < key x =
      subst (λ (o : Option A). IfSome o (λ z. key y < key z)) rest (find_has (λ z. key y < key z) p ys sorted.0) in
      first_other key (key x) y ys (λ same. omega (arith, more, same)) ∙ found_entry key p x ys sorted.1 rest
]

-- the cue above the changed one is the same
pub cue_above-changed : (show : Show) (n : ℕ) (new : Option Cue) → IfSome new (λ cue. cue.number ≡ n)
    → cue_above (changed_show show n new) n ≡ cue_above show n
cue_above-changed show n new number = sym (find_first (λ (x : Cue). nat_lt n x.number) (changed_show show n new).cues)
    ∙ ap (λ (xs : List Cue). slice_get xs 0) (above_exchanged (λ (x : Cue). x.number) n n new show.cues (omega arith) number)
    ∙ find_first (λ (x : Cue). nat_lt n x.number) show.cues

-- so what keeps its levels is what that makes of it
pub cue_only_is : (show : Show) (n : ℕ) (new above : Option Cue) → IfSome new (λ cue. cue.number ≡ n) → cue_above show n ≡ above
    → cue_only true show n (changed_show show n new)
    ≡ option_map_or (kept_above show (changed_show show n new)) above (changed_show show n new)
cue_only_is show n new above number is = ap (λ (o : Option Cue). option_map_or (kept_above show (changed_show show n new)) o (changed_show show n new))
    (cue_above-changed show n new number ∙ is)

pub above_higher : (show : Show) (n : ℕ) (above : Cue) → cue_above show n ≡ Some above → n < above.number
above_higher show n above is = lt_from n above.number (find_passes (λ (x : Cue). nat_lt n x.number) show.cues above is)

pub above_in : (show : Show) (n : ℕ) (above : Cue) → IsStrictlySorted (λ x. x.number) show.cues → cue_above show n ≡ Some above
    → cue_of show above.number ≡ Some above
above_in show n above sorted is = found_entry (λ (x : Cue). x.number) (λ x. nat_lt n x.number) above show.cues sorted is

-- and it is still there
pub above_there : (show : Show) (n : ℕ) (new : Option Cue) (above : Cue) → IsStrictlySorted (λ x. x.number) show.cues
    → IfSome new (λ cue. cue.number ≡ n) → cue_above show n ≡ Some above → cue_of (changed_show show n new) above.number ≡ Some above
above_there show n new above sorted number is = above_in (changed_show show n new) n above
    (sorted_exchanged (λ (x : Cue). x.number) n new show.cues sorted) (cue_above-changed show n new number ∙ is)

-- what it tracks comes of what is tracked at the number
pub above-tracked : (show : Show) (n : ℕ) (above : Cue) (c : ℕ) → IsStrictlySorted (λ x. x.number) show.cues → cue_above show n ≡ Some above
    → tracked show above.number c ≡ through c (tracked show n c) above
above-tracked show n above c sorted is =
    let higher : n < above.number = above_higher show n above is in
    tracked_on show n c sorted above.number (omega (arith, higher)) ∙ ap (walked c (tracked show n c)) (up_to_first show n above sorted is)

pub cue_least : (show : Show) (n : ℕ) (old : Cue) → FoundCue show n old → 1 ≤ n
cue_least show n old here = subst (λ k. 1 ≤ k) here.number here.valid.number.least

level_decided : (c base : ℕ) (new : Option Cue) → level_from new c base ≡ unwrap_or (decided_by new c) base
level_decided c base None = refl
level_decided c base (Some cue) =
    elim (decides cue c) as (λ b. cond b (level_in cue c) base ≡ unwrap_or (cond b (Some (level_in cue c)) None) base)
    [ true ↦ refl | false ↦ refl ]

same_test : (x : ℕ) → not (x == x) ≡ false
same_test x = grind (arith, nat_tests)

differ_through : (d : Bool) (l a b : ℕ) → not (cond d l a == cond d l b) ≡ cond d false (not (a == b))
differ_through true l a b = same_test l
differ_through false l a b = refl

-- A cue that is there is changed, or goes.
module _ {show : Show} {n : ℕ} {old above : Cue} (new : Option Cue) (c : ℕ) (here : FoundCue show n old) (number : IfSome new (λ cue. cue.number ≡ n))
    (is : cue_above show n ≡ Some above) where
  -- what the cue above tracks after the change
  after_is : tracked (changed_show show n new) above.number c ≡ through c (unwrap_or (decided_by new c) (tracked show (n - 1) c)) above
  after_is = above-tracked (changed_show show n new) n above c (sorted_exchanged (λ (x : Cue). x.number) n new show.cues here.valid_show.cues_sorted)
      (cue_above-changed show n new number ∙ is)
      ∙ ap (λ level. through c level above) (tracked_here show n c new number here.valid_show.cues_sorted
      ∙ level_decided c (into show n c) new
      ∙ ap (unwrap_or (decided_by new c)) (sym (tracked_into show n c (cue_least show n old here))))

  -- and before it
  before_is : tracked show above.number c ≡ through c (unwrap_or (decided old c) (tracked show (n - 1) c)) above
  before_is = above-tracked show n above c here.valid_show.cues_sorted is
      ∙ ap (λ level. through c level above) (tracked_at show n c here.valid_show.cues_sorted
      ∙ ap (λ (o : Option Cue). level_from o c (into show n c)) here.found ∙ level_decided c (into show n c) (Some old)
      ∙ ap (unwrap_or (decided old c)) (sym (tracked_into show n c (cue_least show n old here))))

  -- a level there is changed unless the cue above decides it, where the changed one decides otherwise, over what tracks into it
  pub level_differs : not (tracked show above.number c == tracked (changed_show show n new) above.number c)
      ≡ cond (decides above c) false
      (not (unwrap_or (decided old c) (tracked show (n - 1) c) == unwrap_or (decided_by new c) (tracked show (n - 1) c)))
  level_differs = rw (before_is, after_is) (differ_through (decides above c) (level_in above c) _ _)

  -- a channel for which the same is decided keeps its level
  pub unchanged : decided_by new c ≡ decided old c → not (tracked show above.number c == tracked (changed_show show n new) above.number c) ≡ false
  unchanged same = rw (before_is, after_is, same) (same_test _)

-- where the same is decided outside a range, channels that aren't in it get no moves
pub none_kept : {show : Show} {n : ℕ} {old above : Cue} (new : Option Cue) (within : Span) (k m : ℕ) → FoundCue show n old
    → IfSome new (λ cue. cue.number ≡ n) → cue_above show n ≡ Some above → DecidesOutside within show.channels old new → k ≤ m
    → m ≤ show.channels → ((x : ℕ) → k < x → x ≤ m → covers within x ≡ false)
    → map {B = Move} (λ c. record { chan = c; part = 1; level = tracked show above.number c })
    (filter (λ c. not (tracked show above.number c == tracked (changed_show show n new) above.number c)) (range_with_len 1 k))
    ≡ map {B = Move} (λ c. record { chan = c; part = 1; level = tracked show above.number c })
    (filter (λ c. not (tracked show above.number c == tracked (changed_show show n new) above.number c)) (range_with_len 1 m))
none_kept {show} {n} {old} {above} new within k m here number is outside le most out =
    ap (map {B = Move} (λ c. record { chan = c; part = 1; level = tracked show above.number c }))
    (sym (none_past (λ c. not (tracked show above.number c == tracked (changed_show show n new) above.number c)) 1 k (m - k) m (omega (arith, le))
    (λ x low high. unchanged new x here number is
    (outside x (record { least = omega (arith, low); most = omega (arith, high, most) }) (out x (omega (arith, low)) (omega (arith, high)))))))

-- A cue of the number of the cue above may be placed again.
pub above_fits : (show : Show) (n : ℕ) (new : Option Cue) (above kept : Cue) → IsStrictlySorted (λ x. x.number) show.cues
    → IfSome new (λ cue. cue.number ≡ n) → cue_above show n ≡ Some above → kept.number ≡ above.number → ValidCue show.channels kept
    → CanPlace (changed_show show n new) kept
above_fits show n new above kept sorted number is same valid =
    record { valid = valid; room = rw (same, above_there show n new above sorted number is) refl }

-- it is one above
pub above_is : (show : Show) (n : ℕ) (above kept : Cue) → IsStrictlySorted (λ x. x.number) show.cues → kept.number ≡ above.number
    → cue_above show n ≡ Some above → IsAbove show n kept
above_is show n above kept sorted same is = record {
  there = rw (same, above_in show n above sorted is) refl;
  higher = omega (arith, same, above_higher show n above is);
}

pub outside_low : (range : Span) (c : ℕ) → c < range.first → covers range c ≡ false
outside_low range c low = grind (arith, nat_tests)

pub outside_high : (range : Span) (c : ℕ) → range.last < c → covers range c ≡ false
outside_high range c high = grind (arith, nat_tests)
