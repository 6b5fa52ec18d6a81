-- Several entries placed into a sorted list.
use Rattle.lx_show.proofs.Imports.{◌≡◌, ℕ, ◌+◌, ◌-◌, ◌<◌, ◌≤◌, List, [], ◌∷◌, ◌++◌, length, get_or, take, drop}
use Rattle.lx_show.proofs.Imports.{refl, ◌∙◌, sym, ap, append_assoc, arith, add-one, inl, inr, slice_get, option_to_list}
use Rattle.lx_show.proofs.Imports.{filter, not, ◌&&◌, nat_le, AllByRecursion, cases_lt, lt_true, lt_false, le_true, le_false, take-append-drop}
use Rattle.lx_show.proofs.Imports.{drop_more, take_all, length-drop, slice_get_read, IfSome, IsStrictlySorted-drop, IsStrictlySorted, all_placed, placed, entries_below}
use Rattle.lx_show.proofs.Imports.{entries_above, GoesAt, all_append, each, take_with, All-placed, IsStrictlySorted-placed, all_below}
use Rattle.lx_show.proofs.Imports.{goes_between, none_below}
use Rattle.std.proofs.lemmas.List.Sums.{fold-append}

pub IsStrictlySorted-all_placed : {A : Type 0} (key : A → ℕ) (more xs : List A) → IsStrictlySorted key xs
    → IsStrictlySorted key (all_placed key more xs)
IsStrictlySorted-all_placed key [] xs rises = rises
IsStrictlySorted-all_placed key (x ∷ more) xs rises =
    IsStrictlySorted-all_placed key more (placed key x xs) (IsStrictlySorted-placed key x xs rises)

pub All-all_placed : {A : Type 0} (P : A → Type 0) (key : A → ℕ) (more xs : List A) → AllByRecursion P more → AllByRecursion P xs
    → AllByRecursion P (all_placed key more xs)
All-all_placed P key [] xs here all = all
All-all_placed P key (x ∷ more) xs here all = All-all_placed P key more (placed key x xs) here.1 (All-placed P key x xs here.0 all)

-- first the entries at the front, and then the others
pub placed_rest : {A : Type 0} (key : A → ℕ) (k : ℕ) (more xs ys : List A) → ys ≡ all_placed key (take k more) xs
    → all_placed key (drop k more) ys ≡ all_placed key more xs
placed_rest key k more xs ys is = ap (all_placed key (drop k more)) is
    ∙ sym (fold-append (λ zs x. placed key x zs) xs (take k more) (drop k more))
    ∙ ap (λ zs. all_placed key zs xs) (take-append-drop k more)

pub rest_of_slice : {A : Type 0} (k : ℕ) (xs : List A) → k ≤ length xs → take (length xs - k) (drop k xs) ≡ drop k xs
rest_of_slice k xs most = take_all (length xs - k) (drop k xs) (rw length-drop (omega arith))

-- the same where the loop goes on with the rest of a slice
pub rest_placed : {A : Type 0} (key : A → ℕ) (k : ℕ) (more xs ys whole : List A) → ys ≡ all_placed key (take k more) xs
    → all_placed key more xs ≡ whole → k ≤ length more → all_placed key (take (length more - k) (drop k more)) ys ≡ whole
rest_placed key k more xs ys whole is so_far most =
    ap (λ zs. all_placed key zs ys) (rest_of_slice k more most) ∙ placed_rest key k more xs ys is ∙ so_far

-- one entry more at the front of a list
pub one_more : {A : Type 0} (xs : List A) (k : ℕ) (x : A) → k < length xs → x ≡ get_or xs k x → take (k + 1) xs ≡ take k xs ++ (x ∷ [])
one_more xs k x within is = rw add-one (take_with xs k within)
    ∙ ap (λ o. take k xs ++ option_to_list o) (slice_get_read xs (length xs) k x refl within is)

pub placed_more : {A : Type 0} (key : A → ℕ) (more xs : List A) (k : ℕ) (x : A) {ys : List A} → k < length more → x ≡ get_or more k x
    → ys ≡ all_placed key (take k more) xs → placed key x ys ≡ all_placed key (take (k + 1) more) xs
placed_more key more xs k x within is so_far =
    ap (placed key x) so_far ∙ sym (fold-append (λ zs y. placed key y zs) xs (take k more) (x ∷ []))
    ∙ ap (λ zs. all_placed key zs xs) (sym (one_more more k x within is))

-- the first entry, and those behind it as a slice
pub first_and_rest : {A : Type 0} (more : List A) (k : ℕ) (x : A) → 0 < length more → x ≡ get_or more 0 x
    → take (k + 1) more ≡ x ∷ take k (take (length more - 1) (drop 1 more))
first_and_rest [] k x some is = absurd (omega arith)
first_and_rest (y ∷ more) k x some is = rw (rest_of_slice 1 (y ∷ more) (omega arith), add-one) (ap (λ z. z ∷ take k more) (sym is))

-- Entries that go to one index of a list, in order: all before them and they themselves are below a number.
pub record Fits {A : Type 0} (key : A → ℕ) (least at : ℕ) (xs run : List A) : Type 0 where
  pub low : AllByRecursion (λ y. key y < least) (take at xs ++ run)
  pub items : all_placed key run xs ≡ take at xs ++ (run ++ drop at xs)

module _ {A : Type 0} {key : A → ℕ} {at n : ℕ} {xs : List A} (more : List A) where
  pub one_fits : {x : A} → 0 < length more → x ≡ get_or more 0 x → n ≡ key x → IfSome (slice_get more 0) (λ y. GoesAt key (key y) xs at)
      → Fits key (n + 1) at xs (take 1 more)
  one_fits {x} some here is all =
      let goes : GoesAt key (key x) xs at = rw (slice_get_read more (length more) 0 x refl some here) at all in
      let low : AllByRecursion (λ y. key y < key x) (take at xs) = rw goes.before (all_below key (key x) xs) in
      rw (one_more more 0 x some here) record {
        low = all_append _ (take at xs) (x ∷ []) (each _ _ (take at xs) (λ y h. omega (arith, is)) low) (omega (arith, is), tt);
        items = rw (← goes.before, ← goes.after) refl;
      }

  -- one more, which is below all behind the index
  pub more_fit : {k least end : ℕ} (x : A) → Fits key least at xs (take k more) → AllByRecursion (λ y. end ≤ key y) (drop at xs)
      → k < length more → x ≡ get_or more k x → n ≡ key x → least ≤ n → n < end → Fits key (n + 1) at xs (take (k + 1) more)
  more_fit {k} x f behind within here is from to =
      let run = take k more in
      let front = take at xs ++ run in
      let all = goes_between key (key x) front (drop at xs) (each _ _ front (λ y h. omega (arith, is)) f.low)
      (each _ _ (drop at xs) (λ y h. omega (arith, is)) behind) in
      let longer : front ++ (x ∷ []) ≡ take at xs ++ (run ++ (x ∷ [])) = append_assoc (take at xs) run (x ∷ []) in
      rw (one_more more k x within here) record {
        low = rw (← longer) (all_append _ front (x ∷ []) (each _ _ front (λ y h. omega arith) f.low) (omega (arith, is), tt));
        items = fold-append (λ zs y. placed key y zs) xs run (x ∷ [])
            ∙ ap (placed key x) (f.items ∙ sym (append_assoc (take at xs) run (drop at xs))) ∙ (λ i. all.0 i ++ (x ∷ all.2 i))
            ∙ append_assoc (take at xs) run (x ∷ drop at xs) ∙ ap (λ zs. take at xs ++ zs) (sym (append_assoc run (x ∷ []) (drop at xs)));
      }

-- the numbers behind a gap are at least that of the entry that ends it
pub behind_gap : {A : Type 0} (key : A → ℕ) (xs : List A) (at : ℕ) (x : A) → IsStrictlySorted key xs → at < length xs → x ≡ get_or xs at x
    → AllByRecursion (λ y. key x ≤ key y) (drop at xs)
behind_gap key xs at x sorted within is =
    let rest : drop at xs ≡ x ∷ drop (at + 1) xs = drop_more xs at x within ∙ ap (λ h. h ∷ drop (at + 1) xs) (sym is) in
    let rises : IsStrictlySorted key (x ∷ drop (at + 1) xs) = rw rest at (IsStrictlySorted-drop key at xs sorted) in
    rw rest (omega arith, each _ _ (drop (at + 1) xs) (λ y h. omega arith) rises.0)

-- the entries below a range of numbers and those above it
pub around_range : {A : Type 0} (key : A → ℕ) (first last : ℕ) (xs : List A) → first ≤ last → IsStrictlySorted key xs
    → entries_below key first xs ++ entries_above key last xs ≡ filter (λ x. not (nat_le first (key x) && nat_le (key x) last)) xs
around_range key first last [] order sorted = refl
around_range {A} key first last (x ∷ xs) order sorted =
    let rest = around_range key first last xs order sorted.1 in
    elim (cases_lt (key x) first) [
      | inl low ↦ rw (lt_true (key x) first low, lt_false last (key x) (omega arith), le_false first (key x) low) (ap (λ ys. x ∷ ys) rest)
      | inr high ↦ elim (cases_lt last (key x)) [
        | inl past ↦
            let none : entries_below key first xs ≡ [] = none_below key first xs (each _ _ xs (λ y h. omega arith) sorted.0) in
            rw (lt_false (key x) first high, lt_true last (key x) past, le_true first (key x) high, le_false (key x) last past, none)
            (ap (λ ys. x ∷ ys) (rw none at rest))
        | inr within ↦
            rw (lt_false (key x) first high, lt_false last (key x) within, le_true first (key x) high, le_true (key x) last within) rest
      ]
    ]
