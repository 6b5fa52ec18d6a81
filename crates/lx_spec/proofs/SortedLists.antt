-- Lists that are sorted by a number of their entries: cut at a number, filtered, changed, and with an entry placed.
use Rattle.lx_spec.proofs.Imports.{◌≡◌, ℕ, zero, suc, ◌+◌, ◌-◌, ◌<◌, ◌≤◌, Bool, true, false, cond, List, [], ◌∷◌, ◌++◌}
use Rattle.lx_spec.proofs.Imports.{length, get_or, take, drop, Some, None, refl, ◌∙◌, sym, ap, subst, inl, inr, arith, Option, IfSome, IsTrue, filter}
use Rattle.lx_spec.proofs.Imports.{map, is_some, nat_lt, ◌==◌, AllByRecursion, false≢true, cases_lt, option_to_list, take-append-drop, drop_more, append-nil}
use Rattle.lx_spec.proofs.Imports.{length-append, filter-append, All-from_recursion, find-append, InRange, IsStrictlySorted, entry_at, has_entry, entries_below}
use Rattle.lx_spec.proofs.Imports.{entries_above, placed, taken_out}
use Rattle.std.specs.List.Sorted.{IsNonDecreasingBy}
use Rattle.lx_spec.proofs.Comparisons.{lt_true, lt_false, lt_from, eq_true, eq_other, eq_below, eq_above, eq_from, above_or_equal}
use Rattle.lx_spec.proofs.Comparisons.{equal_below, equal_above}
use Rattle.lx_spec.proofs.Lists.{each, all_append, kept_by, passes, filter_all, filter_none, find_none, find_after, find_passes, find_has}
use Rattle.lx_spec.proofs.Lists.{find_in_filter, or_none}

-- a list cut at one of its entries
pub seam : {A : Type 0} (xs : List A) (at : ℕ) (x : A) → at < length xs → x ≡ get_or xs at x → xs ≡ take at xs ++ (x ∷ drop (at + 1) xs)
seam xs at x within is = sym (take-append-drop at xs)
    ∙ ap (λ ys. take at xs ++ ys) (drop_more xs at x within ∙ ap (λ h. h ∷ drop (at + 1) xs) (sym is))

pub all_at_seam : {A : Type 0} (P : A → Type 0) (front back : List A) (x : A) → AllByRecursion P (front ++ (x ∷ back)) → P x
all_at_seam P [] back x all = all.0
all_at_seam P (y ∷ front) back x all = all_at_seam P front back x all.1

pub low_end : (a n : ℕ) → a < n → a ≤ n - 1
low_end a n h = omega arith

one_there : {A : Type 0} (o : Option A) → IsTrue (is_some o) → length (option_to_list o) ≡ 1
one_there None there = absurd (false≢true there)
one_there (Some x) there = refl

module _ {A : Type 0} (key : A → ℕ) where
  pub IsStrictlySorted-drop : (i : ℕ) (xs : List A) → IsStrictlySorted key xs → IsStrictlySorted key (drop i xs)
  IsStrictlySorted-drop zero xs sorted = sorted
  IsStrictlySorted-drop (suc i) [] sorted = sorted
  IsStrictlySorted-drop (suc i) (x ∷ xs) sorted = IsStrictlySorted-drop i xs sorted.1

  pub in_order : (xs : List A) → IsStrictlySorted key xs → IsNonDecreasingBy key xs
  in_order [] sorted i j d le lt = absurd (omega arith)
  in_order (x ∷ xs) sorted zero zero d le lt = omega arith
  in_order (x ∷ xs) sorted zero (suc j) d le lt =
      let above : key x < key (get_or xs j d) = All-from_recursion (λ y. key x < key y) xs sorted.0 j d (omega arith) in omega arith
  in_order (x ∷ xs) sorted (suc i) zero d le lt = absurd (omega arith)
  in_order (x ∷ xs) sorted (suc i) (suc j) d le lt = in_order xs sorted.1 i j d (omega arith) (omega arith)

  -- What stands on one side of a number is kept by one filter and not by the other, and has no entry of the number.
  all_low : (n : ℕ) (xs : List A) → AllByRecursion (λ y. key y < n) xs → entries_below key n xs ≡ xs
  all_low n xs below = filter_all _ xs (each _ _ xs (λ y h. lt_true (key y) n h) below)

  none_high : (n : ℕ) (xs : List A) → AllByRecursion (λ y. key y < n) xs → entries_above key n xs ≡ []
  none_high n xs below = filter_none _ xs (each _ _ xs (λ y h. lt_false n (key y) (omega arith)) below)

  all_high : (n : ℕ) (xs : List A) → AllByRecursion (λ y. n < key y) xs → entries_above key n xs ≡ xs
  all_high n xs above = filter_all _ xs (each _ _ xs (λ y h. lt_true n (key y) h) above)

  pub none_below : (n : ℕ) (xs : List A) → AllByRecursion (λ y. n < key y) xs → entries_below key n xs ≡ []
  none_below n xs above = filter_none _ xs (each _ _ xs (λ y h. lt_false (key y) n (omega arith)) above)

  pub none_there : (n : ℕ) (xs : List A) → AllByRecursion (λ y. n < key y) xs → entry_at key n xs ≡ None
  none_there n xs above = find_none _ xs (each _ _ xs (λ y h. eq_above (key y) n h) above)

  not_before : (n : ℕ) (front back : List A) → AllByRecursion (λ y. key y < n) front → entry_at key n (front ++ back) ≡ entry_at key n back
  not_before n front back below = find_after _ front back (each _ _ front (λ y h. eq_below (key y) n h) below)

  -- those below a number, and then those above it
  pub goes_between : (n : ℕ) (front back : List A)
      → AllByRecursion (λ y. key y < n) front → AllByRecursion (λ y. n < key y) back → (entries_below key n (front ++ back) ≡ front)
      × (entry_at key n (front ++ back) ≡ None) × (entries_above key n (front ++ back) ≡ back)
  goes_between n front back below above = (
    rw (filter-append, all_low n front below, none_below n back above, append-nil) refl,
    not_before n front back below ∙ none_there n back above,
    rw (filter-append, none_high n front below, all_high n back above) refl,
  )

  -- an entry between those below its number and those above it
  pub stands_between : (n : ℕ) (front back : List A) (x : A)
      → AllByRecursion (λ y. key y < n) front → key x ≡ n → AllByRecursion (λ y. n < key y) back
      → (entries_below key n (front ++ (x ∷ back)) ≡ front) × (entry_at key n (front ++ (x ∷ back)) ≡ Some x)
      × (entries_above key n (front ++ (x ∷ back)) ≡ back)
  stands_between n front back x below here above =
      let not_low : nat_lt (key x) n ≡ false = lt_false (key x) n (omega arith) in
      let not_high : nat_lt n (key x) ≡ false = lt_false n (key x) (omega arith) in (
        rw (filter-append, all_low n front below, not_low, none_below n back above, append-nil) refl,
        not_before n front (x ∷ back) below ∙ rw (eq_true (key x) n here) refl,
        rw (filter-append, none_high n front below, not_high, all_high n back above) refl,
      )

  pub below_seam : (front back : List A) (x : A) → IsStrictlySorted key (front ++ (x ∷ back)) → AllByRecursion (λ y. key y < key x) front
  below_seam [] back x sorted = tt
  below_seam (y ∷ front) back x sorted = (all_at_seam (λ z. key y < key z) front back x sorted.0, below_seam front back x sorted.1)

  pub above_seam : (front back : List A) (x : A) → IsStrictlySorted key (front ++ (x ∷ back)) → AllByRecursion (λ y. key x < key y) back
  above_seam [] back x sorted = sorted.0
  above_seam (y ∷ front) back x sorted = above_seam front back x sorted.1

  pub strictly_above : (n : ℕ) (rest : List A)
      → AllByRecursion (λ y. n ≤ key y) rest → IsStrictlySorted key rest → ((y : A) (ys : List A) → rest ≡ y ∷ ys → key y ≡ n → ⊥)
      → AllByRecursion (λ y. n < key y) rest
  strictly_above n [] least sorted other = tt
  strictly_above n (y ∷ ys) least sorted other =
      let first : n < key y = above_or_equal n (key y) least.0 (other y ys refl) in
      (first, each _ _ ys (λ z h. omega arith) sorted.0)

  -- A sorted list is what stands below a number, its entry, and what stands above it; without the entry it is the other two.
  parted : (n : ℕ) (xs : List A) → IsStrictlySorted key xs
      → (entries_below key n xs ++ (option_to_list (entry_at key n xs) ++ entries_above key n xs) ≡ xs)
      × (entries_below key n xs ++ entries_above key n xs ≡ taken_out key n xs)
  parted n [] sorted = (refl, refl)
  parted n (x ∷ xs) sorted =
      let rest = parted n xs sorted.1 in
      elim (cases_lt (key x) n) [
        | inl low ↦ rw (lt_true (key x) n low, lt_false n (key x) (omega arith), eq_below (key x) n low)
            (ap (λ ys. x ∷ ys) rest.0, ap (λ ys. x ∷ ys) rest.1)
        | inr up ↦
            let above : AllByRecursion (λ y. n < key y) xs = each _ _ xs (λ y h. omega arith) sorted.0 in
            let others : xs ≡ taken_out key n xs = rw (none_below n xs above, all_high n xs above) at rest.1 in
            rw (lt_false (key x) n up, none_below n xs above, all_high n xs above, none_there n xs above)
            (elim (cases_lt n (key x)) [
              | inl high ↦ rw (lt_true n (key x) high, eq_above (key x) n high) (refl, ap (λ ys. x ∷ ys) others)
              | inr le ↦ rw (lt_false n (key x) le, eq_true (key x) n (omega arith)) (refl, others)
            ])
      ]

  pub below_and_above : (n : ℕ) (xs : List A) → IsStrictlySorted key xs → entries_below key n xs ++ entries_above key n xs
      ≡ taken_out key n xs
  below_and_above n xs sorted = (parted n xs sorted).1

  pub split_there : (n : ℕ) (x : A) (xs : List A) → IsStrictlySorted key xs → entry_at key n xs ≡ Some x → xs
      ≡ entries_below key n xs ++ (x ∷ entries_above key n xs)
  split_there n x xs sorted found = sym (rw found at (parted n xs sorted).0)

  -- the entry that is there already, placed again, changes nothing
  pub placed_same : (x : A) (xs : List A) → IsStrictlySorted key xs → entry_at key (key x) xs ≡ Some x → placed key x xs ≡ xs
  placed_same x xs sorted found = sym (split_there (key x) x xs sorted found)

  pub IsStrictlySorted-filter : (p : A → Bool) (xs : List A) → IsStrictlySorted key xs → IsStrictlySorted key (filter p xs)
  IsStrictlySorted-filter p [] sorted = tt
  IsStrictlySorted-filter p (x ∷ xs) sorted =
      elim (p x) as (λ b. IsStrictlySorted key (cond b (x ∷ filter p xs) (filter p xs))) [
        | true ↦ (kept_by (λ y. key x < key y) p xs sorted.0, IsStrictlySorted-filter p xs sorted.1)
        | false ↦ IsStrictlySorted-filter p xs sorted.1
      ]

  pub mapped_above : (f : A → A) (n : ℕ) (xs : List A) → ((x : A) → key (f x) ≡ key x)
      → AllByRecursion (λ y. n < key y) xs → AllByRecursion (λ y. n < key y) (map f xs)
  mapped_above f n [] same all = tt
  mapped_above f n (x ∷ xs) same all =
      let here : n < key (f x) = omega (arith, all.0, same x) in
      (here, mapped_above f n xs same all.1)

  -- a change of each entry that keeps the numbers keeps the order
  pub IsStrictlySorted-map : (f : A → A) (xs : List A) → ((x : A) → key (f x) ≡ key x) → IsStrictlySorted key xs
      → IsStrictlySorted key (map f xs)
  IsStrictlySorted-map f [] same sorted = tt
  IsStrictlySorted-map f (x ∷ xs) same sorted = (
    subst (λ n. AllByRecursion (λ y. n < key y) (map f xs)) (sym (same x)) (mapped_above f (key x) xs same sorted.0),
    IsStrictlySorted-map f xs same sorted.1,
  )

  -- entries below a number, an entry of that number, entries above it
  pub joined : (front : List A) (x : A) (back : List A) → IsStrictlySorted key front
      → AllByRecursion (λ y. key y < key x) front → AllByRecursion (λ y. key x < key y) back → IsStrictlySorted key back
      → IsStrictlySorted key (front ++ (x ∷ back))
  joined [] x back sorted below above rest = (above, rest)
  joined (y ∷ front) x back sorted below above rest = (
    all_append _ front (x ∷ back) sorted.0 (below.0, each _ _ back (λ z h. omega (arith, below.0)) above),
    joined front x back sorted.1 below.1 above rest,
  )

  pub all_below : (n : ℕ) (xs : List A) → AllByRecursion (λ y. key y < n) (entries_below key n xs)
  all_below n xs = each _ _ (entries_below key n xs) (λ y h. lt_from (key y) n h) (passes (λ y. nat_lt (key y) n) xs)

  pub all_above : (n : ℕ) (xs : List A) → AllByRecursion (λ y. n < key y) (entries_above key n xs)
  all_above n xs = each _ _ (entries_above key n xs) (λ y h. lt_from n (key y) h) (passes (λ y. nat_lt n (key y)) xs)

  pub IsStrictlySorted-placed : (x : A) (xs : List A) → IsStrictlySorted key xs → IsStrictlySorted key (placed key x xs)
  IsStrictlySorted-placed x xs sorted =
      joined (entries_below key (key x) xs) x (entries_above key (key x) xs) (IsStrictlySorted-filter _ xs sorted)
      (all_below (key x) xs) (all_above (key x) xs) (IsStrictlySorted-filter _ xs sorted)

  pub found_number : (n : ℕ) (xs : List A) (x : A) → entry_at key n xs ≡ Some x → n ≡ key x
  found_number n xs x is = eq_from (key x) n (find_passes (λ y. key y == n) xs x is)

  pub entry_number : (n : ℕ) (xs : List A) (x : A) → entry_at key n xs ≡ Some x → key x ≡ n
  entry_number n xs x is = sym (found_number n xs x is)

  -- sorted entries above one number and up to another are no more than the numbers between
  pub few : (low high : ℕ) (xs : List A) → low ≤ high → IsStrictlySorted key xs
      → AllByRecursion (λ y. low < key y) xs → AllByRecursion (λ y. key y ≤ high) xs → length xs + low ≤ high
  few low high [] order sorted above below = omega arith
  few low high (x ∷ xs) order sorted above below =
      let rest : length xs + key x ≤ high = few (key x) high xs below.0 sorted.1 sorted.0 below.1 in
      let first : low < key x = above.0 in
      omega arith

  -- sorted numbers from 1 to a limit are no more than the limit
  pub few_in_range : (high : ℕ) (xs : List A) → IsStrictlySorted key xs → AllByRecursion (λ y. InRange high (key y)) xs → length xs ≤ high
  few_in_range high xs sorted all =
      let less : length xs + 0 ≤ high = few 0 high xs (omega arith) sorted (each _ _ xs (λ y h. h.least) all)
      (each _ _ xs (λ y h. h.most) all) in
      omega arith

  -- what is found after an entry was placed
  pub entry_at-placed : (n : ℕ) (x : A) (xs : List A) → entry_at key n (placed key x xs) ≡ cond (key x == n) (Some x) (entry_at key n xs)
  entry_at-placed n x xs =
      let k = key x in
      find-append (λ y. key y == n) (entries_below key k xs) (x ∷ entries_above key k xs) ∙ elim (cases_lt n k) [
        | inl high ↦
            let none = none_there n (entries_above key k xs) (each _ _ _ (λ y h. omega (arith, h)) (all_above k xs)) in
            let front = find_in_filter (λ y. key y == n) (λ y. nat_lt (key y) k) xs (λ y h. equal_below (key y) n k high h) in
            rw (eq_other k n (λ same. omega arith), none, front) (or_none (entry_at key n xs))
        | inr le ↦
            let none : entry_at key n (entries_below key k xs) ≡ None =
            find_none _ _ (each _ _ _ (λ y h. eq_below (key y) n (omega (arith, h))) (all_below k xs)) in
            rw none (elim (cases_lt k n) [
              | inl low ↦ rw (eq_below k n low)
                  (find_in_filter (λ y. key y == n) (λ y. nat_lt k (key y)) xs (λ y h. equal_above (key y) n k low h))
              | inr same ↦ rw (eq_true k n (omega arith)) refl
            ])
      ]

  -- the entry of a number is the one that was placed there, and those of other numbers are as they were
  pub entry_at-placed_here : (n : ℕ) (x : A) (xs : List A) → key x ≡ n → entry_at key n (placed key x xs) ≡ Some x
  entry_at-placed_here n x xs here = entry_at-placed n x xs ∙ rw (eq_true (key x) n here) refl

  pub entry_at-placed_other : (n : ℕ) (x : A) (xs : List A) → (key x ≡ n → ⊥) → entry_at key n (placed key x xs) ≡ entry_at key n xs
  entry_at-placed_other n x xs other = entry_at-placed n x xs ∙ rw (eq_other (key x) n other) refl

  -- what is there stays there
  pub has_placed : (n : ℕ) (x : A) (xs : List A) → IsTrue (has_entry key n xs) → IsTrue (has_entry key n (placed key x xs))
  has_placed n x xs there = rw (entry_at-placed n x xs)
      (elim (key x == n) as (λ b. IsTrue (is_some (cond b (Some x) (entry_at key n xs)))) [ true ↦ refl | false ↦ there ])

  -- what stands on both sides of a number and at it is no more than all
  sides : (n : ℕ) (xs : List A)
      → length (entries_below key n xs) + length (entries_above key n xs) + length (option_to_list (entry_at key n xs)) ≤ length xs
  sides n [] = omega arith
  sides n (x ∷ xs) =
      let rest = sides n xs in
      elim (cases_lt (key x) n) [
        | inl low ↦ rw (lt_true (key x) n low, lt_false n (key x) (omega arith), eq_below (key x) n low) (omega arith)
        | inr up ↦ rw (lt_false (key x) n up) (elim (cases_lt n (key x)) [
          | inl high ↦ rw (lt_true n (key x) high, eq_above (key x) n high) (omega arith)
          | inr le ↦ rw (lt_false n (key x) le, eq_true (key x) n (omega arith)) (omega arith)
        ])
      ]

  pub one_between : (n : ℕ) (xs : List A) → IsTrue (has_entry key n xs)
      → length (entries_below key n xs) + length (entries_above key n xs) < length xs
  one_between n xs there = omega (arith, sides n xs, one_there (entry_at key n xs) there)

  -- a placing adds one entry at most, and none where the number was there
  pub length-placed : (x : A) (xs : List A) → length (placed key x xs) ≤ length xs + 1
  length-placed x xs = omega (
    arith,
    length-append (entries_below key (key x) xs) (x ∷ entries_above key (key x) xs),
    sides (key x) xs,
  )

  pub length-placed_there : (x : A) (xs : List A) → IsTrue (has_entry key (key x) xs) → length (placed key x xs) ≤ length xs
  length-placed_there x xs there = omega
      (arith, length-append (entries_below key (key x) xs) (x ∷ entries_above key (key x) xs), one_between (key x) xs there)

  -- of two entries with one number, placed one after the other, the second is there
  pub placed_again : (x y : A) (xs : List A) → key y ≡ key x → placed key y (placed key x xs) ≡ placed key y xs
  placed_again x y xs same =
      let k = key x in
      let all = stands_between k (entries_below key k xs) (entries_above key k xs) x (all_below k xs) refl (all_above k xs) in
      let P : ℕ → Type 0 = λ k. entries_below key k (placed key x xs) ++ (y ∷ entries_above key k (placed key x xs))
      ≡ entries_below key k xs ++ (y ∷ entries_above key k xs) in
      subst P (sym same) (rw (all.0, all.2) refl)

pub found_valid : {A : Type 0} (P : A → Type 0) (key : A → ℕ) (n : ℕ) (xs : List A) (x : A) → AllByRecursion P xs
    → entry_at key n xs ≡ Some x → P x
found_valid {A} P key n xs x all is = subst (λ (o : Option A). IfSome o P) is (find_has P (λ y. key y == n) xs all)

pub All-placed : {A : Type 0} (P : A → Type 0) (key : A → ℕ) (x : A) (xs : List A) → P x → AllByRecursion P xs
    → AllByRecursion P (placed key x xs)
All-placed P key x xs here all = all_append P (entries_below key (key x) xs) (x ∷ entries_above key (key x) xs) (kept_by P _ xs all)
    (here, kept_by P _ xs all)
