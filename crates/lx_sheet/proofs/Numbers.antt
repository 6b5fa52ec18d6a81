-- Lists with the same numbers.
use Rattle.lx_sheet.proofs.Imports.{◌≡◌, ℕ, ◌<◌, ◌≤◌, Bool, true, false, cond, List, [], ◌∷◌, length, map, filter, Some, None, refl, ◌∙◌, sym, ap}
use Rattle.lx_sheet.proofs.Imports.{◌+◌, arith, length-take, up_to_there, StandsAt, Option, is_some, option_map, nat_le, nat_lt, ◌==◌, AllByRecursion}
use Rattle.lx_sheet.proofs.Imports.{false≢true, length-map, find_mapped, shorter, IsStrictlySorted, entry_at, entries_below, entries_above}
use Rattle.lx_sheet.proofs.Imports.{entries_up_to, count_under}

-- how many of the numbers are up to this one
abbrev pub count_up_to : ℕ → List ℕ → ℕ
count_up_to n numbers = length (entries_up_to (λ m. m) n numbers)

filter-map : {A : Type 0} (key : A → ℕ) (p : ℕ → Bool) (xs : List A) → filter p (map key xs) ≡ map key (filter (λ x. p (key x)) xs)
filter-map key p [] = refl
filter-map {A} key p (x ∷ xs) = elim (p (key x)) as (λ b. cond b (key x ∷ filter p (map key xs)) (filter p (map key xs))
    ≡ map key (cond b (x ∷ filter (λ y. p (key y)) xs) (filter (λ y. p (key y)) xs)))
    [ true ↦ ap (λ ns. key x ∷ ns) (filter-map key p xs) | false ↦ filter-map key p xs ]

counted : {A : Type 0} (key : A → ℕ) (p : ℕ → Bool) (xs : List A) → length (filter (λ x. p (key x)) xs) ≡ length (filter p (map key xs))
counted key p xs = sym (ap length (filter-map key p xs) ∙ length-map (filter (λ x. p (key x)) xs) key)

pub count_up_to-map : {A : Type 0} (key : A → ℕ) (n : ℕ) (xs : List A) → length (entries_up_to key n xs) ≡ count_up_to n (map key xs)
count_up_to-map key n xs = counted key (λ m. nat_le m n) xs

pub count_under-map : {A : Type 0} (key : A → ℕ) (n : ℕ) (xs : List A) → length (entries_below key n xs) ≡ count_under n (map key xs)
count_under-map key n xs = counted key (λ m. nat_lt m n) xs

pub count_within : (n : ℕ) (numbers : List ℕ) → count_up_to n numbers ≤ length numbers
count_within n numbers = shorter (λ m. nat_le m n) numbers

pub count_under_within : (n : ℕ) (numbers : List ℕ) → count_under n numbers ≤ length numbers
count_under_within n numbers = shorter (λ m. nat_lt m n) numbers

-- up to a number that stands at a place there are that many and one
pub count_there : {A : Type 0} {key : A → ℕ} {n at : ℕ} {xs : List A} → IsStrictlySorted key xs → StandsAt key n xs at
    → at + 1 ≡ length (entries_up_to key n xs)
count_there {A} {key} {n} {at} {xs} sorted stands =
    omega (arith, ap length (up_to_there key n xs at sorted stands), length-take (at + 1) xs, stands.within)

all_numbers : {A : Type 0} (P : ℕ → Type 0) (key : A → ℕ) (xs : List A) → AllByRecursion P (map key xs) ≡ AllByRecursion (λ x. P (key x)) xs
all_numbers P key [] = refl
all_numbers P key (x ∷ xs) = λ i. P (key x) × all_numbers P key xs i

numbers_sorted : {A : Type 0} (key : A → ℕ) (xs : List A) → IsStrictlySorted (λ n. n) (map key xs) ≡ IsStrictlySorted key xs
numbers_sorted key [] = refl
numbers_sorted key (x ∷ xs) = λ i. all_numbers (λ m. key x < m) key xs i × numbers_sorted key xs i

pub sorted_numbers : {A : Type 0} (key : A → ℕ) (xs : List A) → IsStrictlySorted key xs → IsStrictlySorted (λ n. n) (map key xs)
sorted_numbers key xs sorted = rw (numbers_sorted key xs) sorted

module _ {A B : Type 0} (key : A → ℕ) (other : B → ℕ) (xs : List A) (ys : List B) (same : map key xs ≡ map other ys) where
  pub sorted_alike : IsStrictlySorted key xs → IsStrictlySorted other ys
  sorted_alike sorted = rw (← numbers_sorted other ys, ← same) (sorted_numbers key xs sorted)

  pub same_length : length xs ≡ length ys
  same_length = sym (length-map xs key) ∙ ap length same ∙ length-map ys other

  -- as many stand below a number, and above it
  pub numbers_below : (n : ℕ) → map key (entries_below key n xs) ≡ map other (entries_below other n ys)
  numbers_below n = sym (filter-map key (λ m. nat_lt m n) xs) ∙ ap (entries_below (λ m. m) n) same ∙ filter-map other (λ m. nat_lt m n) ys

  pub numbers_above : (n : ℕ) → map key (entries_above key n xs) ≡ map other (entries_above other n ys)
  numbers_above n = sym (filter-map key (λ m. nat_lt n m) xs) ∙ ap (entries_above (λ m. m) n) same ∙ filter-map other (λ m. nat_lt n m) ys

  -- a number is there in both or in none
  pub number_at : (n : ℕ) → option_map key (entry_at key n xs) ≡ option_map other (entry_at other n ys)
  number_at n = sym (find_mapped key (λ m. m == n) xs) ∙ ap (entry_at (λ m. m) n) same ∙ find_mapped other (λ m. m == n) ys

is_some_mapped : {A B : Type 0} (f : A → B) (o : Option A) → is_some (option_map f o) ≡ is_some o
is_some_mapped f None = refl
is_some_mapped f (Some x) = refl

pub same_numbers : {A B : Type 0} (key : A → ℕ) (other : B → ℕ) (n : ℕ) (xs : List A) (ys : List B) → map key xs ≡ map other ys
    → is_some (entry_at key n xs) ≡ is_some (entry_at other n ys)
same_numbers key other n xs ys same = sym (is_some_mapped key (entry_at key n xs)) ∙ ap is_some (number_at key other xs ys same n)
    ∙ is_some_mapped other (entry_at other n ys)

pub none_of : {A : Type 0} (o : Option A) → is_some o ≡ false → o ≡ None
none_of None none = refl
none_of (Some x) none = absurd (false≢true (sym none))

pub absent_alike : {A B : Type 0} (key : A → ℕ) (other : B → ℕ) (n : ℕ) (xs : List A) (ys : List B) → map key xs ≡ map other ys
    → entry_at key n xs ≡ None → entry_at other n ys ≡ None
absent_alike key other n xs ys same absent = none_of (entry_at other n ys) (sym (same_numbers key other n xs ys same) ∙ ap is_some absent)
