-- The index of an entry in a sorted list.
use Rattle.lx_show.proofs.Imports.{◌≡◌, ℕ, ◌+◌, ◌-◌, ◌<◌, ◌≤◌, List, [], ◌∷◌, ◌++◌, length, get_or}
use Rattle.lx_show.proofs.Imports.{set, take, drop, Some, None, refl, ◌∙◌, sym, ap, subst, inl, inr, arith, add-one, insert, remove}
use Rattle.lx_show.proofs.Imports.{option_to_list, slice_get, AllByRecursion, cases_order, set_split}
use Rattle.lx_show.proofs.Imports.{take-append-drop, get_or-take, get_or-drop, append-nil, length-take, length-drop, slice_get-get_or}
use Rattle.lx_show.proofs.Imports.{IsStrictlySorted, entry_at, entries_below, entries_above, placed, taken_out, StandsAt, GoesAt, eq_above, eq_below}
use Rattle.lx_show.proofs.Imports.{eq_true, le_false, le_true, lt_false, lt_true, each, filter_none, take_with}
use Rattle.lx_show.proofs.Imports.{IsStrictlySorted-placed, above_seam, below_and_above, below_seam}
use Rattle.lx_show.proofs.Imports.{goes_between, in_order, none_below, seam, stands_between}
use Rattle.std.proofs.lemmas.List.Elements.{recursion_from_All}
use Rattle.lx_show.specs.Around.{entries_up_to}

-- an entry stands at the place of its number
pub stands_where : {A : Type 0} (key : A → ℕ) (n : ℕ) (xs : List A) (at : ℕ) (x : A) → IsStrictlySorted key xs → at < length xs
    → x ≡ get_or xs at x → key x ≡ n → StandsAt key n xs at
stands_where key n xs at x sorted within is here =
    let back = drop (at + 1) xs in
    let whole : xs ≡ take at xs ++ (x ∷ back) = seam xs at x within is in
    let in_order : IsStrictlySorted key (take at xs ++ (x ∷ back)) = subst (IsStrictlySorted key) whole sorted in
    let all = stands_between key n (take at xs) back x
    (each _ _ (take at xs) (λ y h. omega (arith, here)) (below_seam key (take at xs) back x in_order)) here
    (each _ _ back (λ y h. omega (arith, here)) (above_seam key (take at xs) back x in_order)) in
    record {
      within = within;
      before = sym (ap (entries_below key n) whole ∙ all.0);
      here = ap (entry_at key n) whole ∙ all.1 ∙ sym (slice_get-get_or xs at x within ∙ ap Some (sym is));
      after = sym (ap (entries_above key n) whole ∙ all.2);
    }

-- a number above the entry before the index, and below the one at it, goes to the index
pub goes_where : {A : Type 0} {key : A → ℕ} {n at : ℕ} {xs : List A} → IsStrictlySorted key xs → at ≤ length xs
    → ((d : A) → 0 < at → key (get_or xs (at - 1) d) < n) → ((d : A) → at < length xs → n < key (get_or xs at d)) → GoesAt key n xs at
goes_where {key} {n} {at} {xs} sorted within low high =
    let below : AllByRecursion (λ y. key y < n) (take at xs) = recursion_from_All _ (take at xs) (λ k d lt.
    rw (get_or-take at xs k d (omega (arith, length-take at xs)))
    (let le = in_order key xs sorted k (at - 1) d (omega (arith, length-take at xs)) (omega (arith, length-take at xs)) in
    omega (arith, le, low d (omega (arith, length-take at xs))))) in
    let above : AllByRecursion (λ y. n < key y) (drop at xs) = recursion_from_All _ (drop at xs) (λ k d lt. rw (get_or-drop at xs k d)
    (let le = in_order key xs sorted at (at + k) d (omega arith) (omega (arith, length-drop at xs)) in
    omega (arith, le, high d (omega (arith, length-drop at xs))))) in
    let whole : xs ≡ take at xs ++ drop at xs = sym (take-append-drop at xs) in
    let all = goes_between key n (take at xs) (drop at xs) below above in
    record {
      within = within;
      before = sym (ap (entries_below key n) whole ∙ all.0);
      absent = ap (entry_at key n) whole ∙ all.1;
      after = sym (ap (entries_above key n) whole ∙ all.2);
    }

-- what stands at the place of a number is the entry of the number
pub stands_entry : {A : Type 0} (key : A → ℕ) (n at : ℕ) (ys xs : List A) (x : A) → ys ≡ xs → StandsAt key n ys at → x ≡ get_or xs at x
    → entry_at key n xs ≡ Some x
stands_entry {A} key n at ys xs x same stands is =
    let within : at < length xs = omega (arith, ap length same, stands.within) in
    subst (λ (zs : List A). entry_at key n zs ≡ slice_get zs at) same stands.here ∙ slice_get-get_or xs at x within ∙ ap Some (sym is)

module _ {A : Type 0} {key : A → ℕ} {n at : ℕ} {ys xs : List A} where
  -- an entry in the place of the one of its number
  pub replaced : (x : A) → n ≡ key x → ys ≡ xs → StandsAt key n ys at → set xs at x ≡ placed key x xs
  replaced x is same stands =
      let within : at < length ys = stands.within in
      rw (← is, ← same) (set_split ys at x within ∙ rw (stands.before, ← add-one, stands.after) refl)

  -- a new entry in its place
  pub added : (x : A) → n ≡ key x → ys ≡ xs → GoesAt key n ys at → insert xs at x ≡ placed key x xs
  added x is same goes = rw (← is, ← same) (rw (goes.before, goes.after) refl)

  -- none to take out
  pub none_to_take : IsStrictlySorted key xs → ys ≡ xs → GoesAt key n ys at → xs ≡ taken_out key n xs
  none_to_take sorted same goes =
      rw (← same) (sym (take-append-drop at ys) ∙ rw (goes.before, goes.after) refl) ∙ below_and_above key n xs sorted

  -- the entry of an entry's number is what stood at its place, or nothing
  pub stood : (x : A) {y : A} → n ≡ key x → ys ≡ xs → StandsAt key n ys at → y ≡ get_or xs at y → entry_at key (key x) xs ≡ Some y
  stood x {y} is same stands here = rw (← is) (stands_entry key n at ys xs y same stands here)

  pub absent : (x : A) → n ≡ key x → ys ≡ xs → GoesAt key n ys at → None ≡ entry_at key (key x) xs
  absent x is same goes = rw (← is, ← same) (sym goes.absent)

-- a list with an entry placed is sorted
pub placed_sorted : {A : Type 0} (key : A → ℕ) (x : A) (xs : List A) {new : List A} → new ≡ placed key x xs → IsStrictlySorted key xs
    → IsStrictlySorted key new
placed_sorted key x xs is sorted = rw is (IsStrictlySorted-placed key x xs sorted)

pub sorted_added : {A : Type 0} (key : A → ℕ) (n : ℕ) (ys xs : List A) (x : A) (at : ℕ) → n ≡ key x → ys ≡ xs → GoesAt key n ys at
    → IsStrictlySorted key xs → IsStrictlySorted key (insert xs at x)
sorted_added key n ys xs x at is same goes sorted = placed_sorted key x xs (added x is same goes) sorted

-- those up to a number are those below it, and the one of it
up_to : {A : Type 0} (key : A → ℕ) (n : ℕ) (xs : List A) → IsStrictlySorted key xs
    → entries_up_to key n xs ≡ entries_below key n xs ++ option_to_list (entry_at key n xs)
up_to key n [] sorted = refl
up_to {A} key n (x ∷ xs) sorted =
    let rest : entries_up_to key n xs ≡ entries_below key n xs ++ option_to_list (entry_at key n xs) = up_to key n xs sorted.1 in
    elim (cases_order (key x) n) [
      | inl here ↦
          let later : AllByRecursion (λ y. n < key y) xs = each _ _ xs (λ y h. omega (arith, here)) sorted.0 in
          let no_low : entries_below key n xs ≡ [] = none_below key n xs later in
          let no_more : entries_up_to key n xs ≡ [] = filter_none _ xs (each _ _ xs (λ y h. le_false (key y) n h) later) in
          rw (le_true (key x) n (omega arith), lt_false (key x) n (omega arith), eq_true (key x) n here) (rw (no_more, no_low) refl)
      | inr other ↦ elim other [
        | inl low ↦ rw (le_true (key x) n (omega arith), lt_true (key x) n low, eq_below (key x) n low) (ap (λ ys. x ∷ ys) rest)
        | inr high ↦ rw (le_false (key x) n high, lt_false (key x) n (omega arith), eq_above (key x) n high) rest
      ]
    ]

pub up_to_there : {A : Type 0} (key : A → ℕ) (n : ℕ) (xs : List A) (at : ℕ) → IsStrictlySorted key xs → StandsAt key n xs at
    → take (at + 1) xs ≡ entries_up_to key n xs
up_to_there key n xs at sorted stands = rw add-one (take_with xs at stands.within)
    ∙ ap (λ ys. ys ++ option_to_list (slice_get xs at)) stands.before
    ∙ ap (λ o. entries_below key n xs ++ option_to_list o) (sym stands.here) ∙ sym (up_to key n xs sorted)

pub up_to_absent : {A : Type 0} (key : A → ℕ) (n : ℕ) (xs : List A) (at : ℕ) → IsStrictlySorted key xs → GoesAt key n xs at
    → take at xs ≡ entries_up_to key n xs
up_to_absent key n xs at sorted goes = goes.before ∙ sym (append-nil (entries_below key n xs))
    ∙ ap (λ o. entries_below key n xs ++ option_to_list o) (sym goes.absent) ∙ sym (up_to key n xs sorted)

pub without : {A : Type 0} (key : A → ℕ) (n : ℕ) (ys xs : List A) (at : ℕ) → IsStrictlySorted key xs → ys ≡ xs → StandsAt key n ys at
    → remove xs at ≡ taken_out key n xs
without key n ys xs at sorted same stands =
    subst (λ zs. remove zs at ≡ entries_below key n zs ++ entries_above key n zs) same (rw (stands.before, ← add-one, stands.after) refl)
    ∙ below_and_above key n xs sorted
