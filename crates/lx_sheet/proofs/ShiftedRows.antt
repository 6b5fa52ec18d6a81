-- Rows whose cues stand at other places of the order once a cue came, went or was replaced: they follow from one another as before.
use Rattle.lx_sheet.proofs.Imports.{◌≡◌, ℕ, ◌+◌, ◌-◌, ◌<◌, ◌≤◌, List, ◌++◌, length, get_or, take, drop, map, Some, None, refl, ◌∙◌, sym, ap, inl, inr}
use Rattle.lx_sheet.proofs.Imports.{arith, Option, cases_eq, cases_lt, get_or-drop, get_or-take, get_or_default, take-take, take-map, drop-map}
use Rattle.lx_sheet.proofs.Imports.{length-append, length-map, length-take-le, map-append, append_assoc, take_at, drop_at, Cue, Show}
use Rattle.lx_sheet.proofs.Imports.{IsStrictlySorted, entry_at, entries_below, entries_above, taken_out, new_cue, eq_true, eq_other, none_differs}
use Rattle.lx_sheet.proofs.Imports.{below_and_above, split_there, Place, Marks, AreMarked, row_at_place, cell, IsMarkedFor, has_mark, level_after}
use Rattle.lx_sheet.proofs.Imports.{tracked_on, IsRight, RowsFollow, FillsRows, IsPassed, IsLeft, [], ◌∷◌, option_map, with_cue, cue_of}
use Rattle.lx_sheet.proofs.Imports.{slice_get-get_or, StandsAt}
use Rattle.std.specs.Option.{option_to_list}
use Rattle.lx_sheet.proofs.LevelsAfter.{level_after-take}
use Rattle.lx_sheet.proofs.MarkedRows.{AtPlaces, IsRemarked}
use Rattle.lx_sheet.proofs.Numbers.{number_at, numbers_above, numbers_below, same_length}
use Rattle.lx_sheet.proofs.RightRows.{IsOrderOf, last_right, order_length}

-- A list of which the part from one place on was put in the place of another.
pub record IsSwapped {A : Type 0} (old new : List A) (at a b : ℕ) : Type 0 where
  pub front : take at old ≡ take at new
  pub back : drop a old ≡ drop b new
  pub order : at ≤ a
  pub within : a ≤ length old
  pub long : length old + b ≡ length new + a

behind : {A : Type 0} (front part back : List A) (n : ℕ) → length front + length part ≡ n → drop n (front ++ (part ++ back)) ≡ back
behind front part back n long = rw (← append_assoc front part back) (drop_at (front ++ part) back n (length-append front part ∙ long))

swapped : {A : Type 0} (front x y back : List A) {old new : List A} {at a b : ℕ} → old ≡ front ++ (x ++ back) → new ≡ front ++ (y ++ back)
    → length front ≡ at → at + length x ≡ a → at + length y ≡ b → IsSwapped old new at a b
swapped {A} front x y back {old} {new} {at} {a} {b} was now long wide now_wide = record {
  front = ap (take at) was ∙ take_at front (x ++ back) at long ∙ sym (ap (take at) now ∙ take_at front (y ++ back) at long);
  back = ap (drop a) was ∙ behind front x back a (omega arith) ∙ sym (ap (drop b) now ∙ behind front y back b (omega arith));
  order = omega arith;
  within = omega (arith, ap length was, length-append {A = A});
  long = omega (arith, ap length was, ap length now, length-append {A = A});
}

swapped-map : {A B : Type 0} (f : A → B) {old new : List A} {at a b : ℕ} → IsSwapped old new at a b
    → IsSwapped (map f old) (map f new) at a b
swapped-map f {old} {new} {at} {a} {b} s = record {
  front = take-map f at old ∙ ap (map f) s.front ∙ sym (take-map f at new);
  back = drop-map f a old ∙ ap (map f) s.back ∙ sym (drop-map f b new);
  order = s.order;
  within = omega (arith, s.within, length-map old f);
  long = omega (arith, s.long, length-map old f, length-map new f);
}

in_front : {A : Type 0} {old new : List A} {at a b : ℕ} → IsSwapped old new at a b → (k : ℕ) (d : A) → k < at
    → get_or new k d ≡ get_or old k d
in_front {A} {old} {new} {at} s k d less = rw (← get_or-take at new k d less, ← s.front) (get_or-take at old k d less)

at_back : {A : Type 0} {old new : List A} {at a b : ℕ} → IsSwapped old new at a b → (j k : ℕ) (d : A) → b ≤ k → j + b ≡ k + a
    → get_or new k d ≡ get_or old j d
at_back {A} {old} {new} {at} {a} {b} s j k d past same =
    let to : b + (k - b) ≡ k = omega arith in
    let from : a + (k - b) ≡ j = omega arith in
    ap (λ n. get_or new n d) (sym to) ∙ sym (get_or-drop b new (k - b) d) ∙ ap (λ (xs : List A). get_or xs (k - b) d) (sym s.back)
    ∙ get_or-drop a old (k - b) d ∙ ap (λ n. get_or old n d) from

-- The orders and cues before and after a cue came, went or was replaced: the same stands in front of its place, and the same behind, from
-- one place or another.
pub record IsShifted (before show : Show) (old new : List Place) (at a b : ℕ) : Type 0 where
  pub rows : IsSwapped (map (λ p. p.row) old) (map (λ p. p.row) new) at a b
  pub cues : IsSwapped before.cues show.cues at a b
  pub now : IsOrderOf show new

-- what isn't there needs not be taken out
pub taken_absent : {A : Type 0} (key : A → ℕ) (n : ℕ) (xs : List A) → entry_at key n xs ≡ None → taken_out key n xs ≡ xs
taken_absent key n [] absent = refl
taken_absent {A} key n (x ∷ xs) absent =
    elim (cases_eq (key x) n) [
      | inl here ↦ absurd (none_differs x (sym (rw (eq_true (key x) n here) at absent)))
      | inr other ↦ rw (eq_other (key x) n other) (ap (λ ys. x ∷ ys) (taken_absent key n xs (rw (eq_other (key x) n other) at absent)))
    ]

-- the entry of a number, in a list of its own
abbrev pub own : {A : Type 0} → (A → ℕ) → ℕ → List A → List A
own key n xs = option_to_list (entry_at key n xs)

cut_at : {A : Type 0} (key : A → ℕ) (n : ℕ) (xs : List A) (o : Option A) → IsStrictlySorted key xs → entry_at key n xs ≡ o
    → xs ≡ entries_below key n xs ++ (option_to_list o ++ entries_above key n xs)
cut_at key n xs None sorted absent = sym (below_and_above key n xs sorted ∙ taken_absent key n xs absent)
cut_at key n xs (Some x) sorted found = split_there key n x xs sorted found

-- a sorted list is what stands below a number, its entry, and what stands above it
pub cut : {A : Type 0} (key : A → ℕ) (n : ℕ) (xs : List A) → IsStrictlySorted key xs
    → xs ≡ entries_below key n xs ++ (own key n xs ++ entries_above key n xs)
cut key n xs sorted = cut_at key n xs (entry_at key n xs) sorted refl

listed : {A : Type 0} (f : A → ℕ) (o : Option A) → map f (option_to_list o) ≡ option_to_list (option_map f o)
listed f None = refl
listed f (Some x) = refl

pub shifted : {before show : Show} {old new : List Place} {at : ℕ} (n a b : ℕ) (x : List Place) (y : List Cue) → IsOrderOf before old
    → IsStrictlySorted (λ p. p.cue) new → IsStrictlySorted (λ c. c.number) show.cues
    → take at old ≡ entries_below (λ p. p.cue) n old → at ≤ length old
    → new ≡ entries_below (λ p. p.cue) n old ++ (x ++ entries_above (λ p. p.cue) n old)
    → show.cues ≡ entries_below (λ c. c.number) n before.cues ++ (y ++ entries_above (λ c. c.number) n before.cues)
    → map (λ p. p.cue) x ≡ map (λ c. c.number) y → at + length (own (λ p. p.cue) n old) ≡ a → at + length x ≡ b
    → IsShifted before show old new at a b
shifted {before} {show} {old} {new} {at} n a b x y is sorted cues_sorted front within now cues same wide now_wide =
    let key : Place → ℕ = λ p. p.cue in
    let number : Cue → ℕ = λ c. c.number in
    let low = numbers_below key number old before.cues is.numbers n in
    let high = numbers_above key number old before.cues is.numbers n in
    let here : map key (own key n old) ≡ map number (own number n before.cues) = listed key (entry_at key n old)
    ∙ ap (λ (o : Option ℕ). option_to_list o) (number_at key number old before.cues is.numbers n)
    ∙ sym (listed number (entry_at number n before.cues)) in
    let long : length (entries_below key n old) ≡ at = ap length (sym front) ∙ length-take-le at old within in
    record {
      rows = swapped-map (λ (p : Place). p.row)
          (swapped (entries_below key n old) (own key n old) x (entries_above key n old) (cut key n old is.sorted) now long wide now_wide);
      cues =
          swapped (entries_below number n before.cues) (own number n before.cues) y (entries_above number n before.cues)
          (cut number n before.cues is.cues_sorted) cues (sym (same_length key number _ _ low) ∙ long)
          (omega (arith, same_length key number (own key n old) (own number n before.cues) here, wide))
          (omega (arith, same_length key number x y same, now_wide));
      now = record {
        sorted = sorted;
        cues_sorted = cues_sorted;
        numbers = rw (now, cues) (simp map-append (λ i. low i ++ (same i ++ high i)));
      };
    }

module _ {before show : Show} {old new : List Place} {at a b : ℕ} (s : IsShifted before show old new at a b) where
  -- a row that was right is so at its new place, where the levels before it are the same
  right_behind : (channels : ℕ) (levels : List ℕ) (j k c : ℕ) → b ≤ k → j + b ≡ k + a → k < length show.cues
      → IsRight channels old before.cues levels j c → level_after (take j before.cues) c ≡ level_after (take k show.cues) c
      → IsRight channels new show.cues levels k c
  right_behind channels levels j k c past same within right level =
      let d : Cue = new_cue 0 in
      let cue : Cue = get_or show.cues k d in
      let is : cue ≡ get_or show.cues k cue = get_or_default show.cues k d cue within in
      ap (λ r. cell channels levels r c) (at_back s.rows j k 0 past same)
      ∙ right
      ∙ level_after-take before.cues j cue c (omega (arith, s.cues.long)) (is ∙ at_back s.cues j k cue past same)
      ∙ ap (tracked_on cue c) level
      ∙ sym (level_after-take show.cues k cue c within is)

  -- one row on, where each was right before
  follows_on : (channels : ℕ) (levels : List ℕ) → ((k c : ℕ) → k < length before.cues → IsRight channels old before.cues levels k c)
      → RowsFollow channels new show.cues levels b
  follows_on channels levels right k c least within here =
      let j : ℕ = k + a - b in
      right_behind channels levels (j + 1) (k + 1) c (omega arith) (omega arith) within (right (j + 1) c (omega (arith, s.cues.long)))
      (sym (right j c (omega (arith, s.cues.long))) ∙ ap (λ r. cell channels levels r c) (sym (at_back s.rows j k 0 least (omega arith)))
      ∙ here)

  -- Once the rows from the place on are filled in, each row is right.
  all_right : (channels : ℕ) (levels filled : List ℕ) → ((k c : ℕ) → k < length before.cues → IsRight channels old before.cues levels k c)
      → FillsRows channels new show.cues levels filled at b → (k c : ℕ) → k < length show.cues → IsRight channels new show.cues filled k c
  all_right channels levels filled right is k c within =
      let front : (i x : ℕ) → i < at → IsRight channels new show.cues levels i x = λ i x less.
      ap (λ r. cell channels levels r x) (in_front s.rows i 0 less) ∙ right i x (omega (arith, s.cues.order, s.cues.within))
      ∙ ap (λ (xs : List Cue). level_after xs x) (sym (take-take (i + 1) at before.cues (omega arith)) ∙ ap (take (i + 1)) s.cues.front
      ∙ take-take (i + 1) at show.cues (omega arith)) in
      elim (cases_lt k at) [
        | inl less ↦ is.front k c less (omega (arith, order_length s.now, within)) ∙ front k c less
        | inr more ↦ is.rows (λ x. last_right channels new show.cues levels x at (λ i less. front i x less))
            (follows_on channels levels right)
            k c more within
      ]

  -- marks that were right in the rows are so where those of the rows that came are, and the others are as before
  marked_on : (channels : ℕ) (was marks : Marks) → AreMarked channels old before.cues was → IsRemarked channels new show.cues was marks at b
      → AreMarked channels new show.cues marks
  marked_on channels was marks right re k cue within is =
      let stood : (j : ℕ) → row_at_place new k ≡ row_at_place old j → cue ≡ get_or before.cues j cue → j < length before.cues
      → (at ≤ k → b ≤ k)
      → IsMarkedFor channels marks (row_at_place new k) cue = λ j row held there other c least most decided.
      re.kept k c other (omega (arith, order_length s.now, within)) least most ∙ ap (λ r. has_mark was r c) row
      ∙ right j cue there held c least most decided in
      let j : ℕ = k + a - b in
      elim (cases_lt k at) [
        | inl less ↦ stood k (in_front s.rows k 0 less) (is ∙ in_front s.cues k cue less) (omega (arith, s.cues.order, s.cues.within))
            (λ more. absurd (omega (arith, less, more)))
        | inr more ↦ elim (cases_lt k b) [
          | inl less ↦ re.came k cue more less within is
          | inr past ↦ stood j (at_back s.rows j k 0 past (omega arith)) (is ∙ at_back s.cues j k cue past (omega arith))
              (omega (arith, s.cues.long)) (λ _. past)
        ]
      ]

  -- a sheet that stood for the show before stands for the one after
  pub places_shifted : {channels : ℕ} {levels filled : List ℕ} {was marks : Marks} → AtPlaces before channels old levels was
      → FillsRows channels new show.cues levels filled at b → IsRemarked channels new show.cues was marks at b → channels ≡ show.channels
      → AtPlaces show channels new filled marks
  places_shifted {channels} {levels} {filled} {was} {marks} stood is re same = record {
    same = same;
    is = s.now;
    right = all_right channels levels filled stood.right is;
    marked = marked_on channels was marks stood.marked re;
  }

-- where the cue that came or went changes no level, the first row behind it is right
pub passed : {before show : Show} {old new : List Place} {at channels : ℕ} {levels : List ℕ} {was : Marks}
    → IsShifted before show old new at at (at + 1) → AtPlaces before channels old levels was → IsPassed channels new show.cues levels at
passed {at = at} {channels} {levels} s stood idle c within =
    right_behind s channels levels at (at + 1) c (omega arith) (omega arith) within (stood.right at c (omega (arith, s.cues.long)))
    (ap (λ (xs : List Cue). level_after xs c) s.cues.front ∙ sym (idle c))

pub left_behind : {before show : Show} {old new : List Place} {at channels row : ℕ} {levels : List ℕ} {was : Marks}
    → IsShifted before show old new at (at + 1) at → AtPlaces before channels old levels was → row ≡ row_at_place old at
    → IsLeft channels new show.cues levels at row
left_behind {at = at} {channels} {levels = levels} s stood row_is same c within =
    right_behind s channels levels (at + 1) at c (omega arith) (omega arith) within (stood.right (at + 1) c (omega (arith, s.cues.long)))
    (sym (stood.right at c (omega (arith, s.cues.long))) ∙ ap (λ r. cell channels levels r c) (sym row_is) ∙ same c)

pub own_there : {n at : ℕ} {old : List Place} (d : Place) → StandsAt (λ p. p.cue) n old at → own (λ p. p.cue) n old ≡ get_or old at d ∷ []
own_there {at = at} {old} d stands = ap (λ (o : Option Place). option_to_list o) (stands.here ∙ slice_get-get_or old at d stands.within)

pub placed_there : {n : ℕ} (before : Show) (cue : Cue) → cue.number ≡ n
    → (with_cue before cue).cues ≡ entries_below (λ c. c.number) n before.cues ++ (cue ∷ entries_above (λ c. c.number) n before.cues)
placed_there before cue number = ap (λ m. entries_below (λ (c : Cue). c.number) m before.cues
    ++ (cue ∷ entries_above (λ c. c.number) m before.cues)) number

-- a cue that comes makes one more
pub one_more : {before show : Show} {old : List Place} {n : ℕ} (cue : Cue) → IsOrderOf before old → cue.number ≡ n → cue_of before n ≡ None
    → show ≡ with_cue before cue → length show.cues ≡ length old + 1
one_more {before} {n = n} cue is number absent now =
    let was = cut_at (λ (c : Cue). c.number) n before.cues None is.cues_sorted absent in
    let is_now = ap (λ (s : Show). length s.cues) now ∙ ap length (placed_there before cue number) in
    omega (arith, order_length is, ap length was, is_now, length-append {A = Cue})
