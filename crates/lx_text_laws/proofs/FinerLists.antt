-- What is asked of a list whose entries are mapped, and sorted numbers that are ten times as great.
use Rattle.lx_text_laws.proofs.Imports.{◌≡◌, ℕ, ◌+◌, ◌-◌, ◌*◌, Bool, true, false, cond, not, ◌||◌, ◌==◌, nat_lt, Option, Some, None, List, [], ◌∷◌}
use Rattle.lx_text_laws.proofs.Imports.{◌++◌, map, reverse, drop, filter, filter_map, fold, option_map, position, count_by, refl, list_any}
use Rattle.lx_text_laws.proofs.Imports.{cons_option, last_or, after_last, prefix_len, arith, ap, ◌∙◌, sym, nat_tests, map-append, drop-map}
use Rattle.lx_text_laws.proofs.Imports.{length-map, placed, last_of_each, map_reversed}
use Rattle.std.proofs.lemmas.List.Folds.{fold-map}

module _ {A B : Type 0} (f : A → B) where
  pub filter-mapped : (p : B → Bool) (xs : List A) → filter p (map f xs) ≡ map f (filter (λ x. p (f x)) xs)
  filter-mapped p [] = refl
  filter-mapped p (x ∷ xs) = elim (p (f x)) as (λ b. cond b (f x ∷ filter p (map f xs)) (filter p (map f xs))
      ≡ map f (cond b (x ∷ filter (λ y. p (f y)) xs) (filter (λ y. p (f y)) xs)))
      [ true ↦ ap (λ ys. f x ∷ ys) (filter-mapped p xs) | false ↦ filter-mapped p xs ]

  pub filter_map-mapped : {C : Type 0} (h : B → Option C) (xs : List A) → filter_map h (map f xs) ≡ filter_map (λ x. h (f x)) xs
  filter_map-mapped h [] = refl
  filter_map-mapped h (x ∷ xs) = ap (cons_option (h (f x))) (filter_map-mapped h xs)

  pub any-mapped : (p : B → Bool) (xs : List A) → list_any p (map f xs) ≡ list_any (λ x. p (f x)) xs
  any-mapped p [] = refl
  any-mapped p (x ∷ xs) = ap (λ b. p (f x) || b) (any-mapped p xs)

  pub count-mapped : (p : B → Bool) (xs : List A) → count_by p (map f xs) ≡ count_by (λ x. p (f x)) xs
  count-mapped p xs = fold-map (λ n x. n + cond (p x) 1 0) f 0 xs

  prefix-mapped : (p : B → Bool) (xs : List A) → prefix_len p (map f xs) ≡ prefix_len (λ x. p (f x)) xs
  prefix-mapped p [] = refl
  prefix-mapped p (x ∷ xs) = ap (λ n. cond (p (f x)) (1 + n) 0) (prefix-mapped p xs)

  pub position-mapped : (p : B → Bool) (xs : List A) → position p (map f xs) ≡ position (λ x. p (f x)) xs
  position-mapped p xs = λ j. let n = prefix-mapped (λ x. not (p x)) xs j in cond (nat_lt n (length-map xs f j)) (Some n) None

  pub after_last-mapped : (p : B → Bool) (xs : List A) → after_last p (map f xs) ≡ map f (after_last (λ x. p (f x)) xs)
  after_last-mapped p xs =
      let back = ap (prefix_len (λ x. not (p x))) (map_reversed f xs) ∙ prefix-mapped (λ x. not (p x)) (reverse xs) in
      (λ j. drop (length-map xs f j - back j) (map f xs)) ∙ drop-map f _ xs

  pub last-mapped : (o : Option A) (xs : List A) → last_or (option_map f o) (map f xs) ≡ option_map f (last_or o xs)
  last-mapped o [] = refl
  last-mapped o (x ∷ xs) = last-mapped (Some x) xs

  pub filter_map-then : {C : Type 0} (h : C → Option A) (xs : List C) → filter_map (λ x. option_map f (h x)) xs ≡ map f (filter_map h xs)
  filter_map-then h [] = refl
  filter_map-then h (x ∷ xs) = elim (h x) as (λ o. cons_option (option_map f o) (filter_map (λ y. option_map f (h y)) xs)
      ≡ map f (cons_option o (filter_map h xs))) [ None ↦ filter_map-then h xs | Some y ↦ ap (λ ys. f y ∷ ys) (filter_map-then h xs) ]

tenfold-lt : (a b : ℕ) → nat_lt (10 * a) (10 * b) ≡ nat_lt a b
tenfold-lt a b = grind (arith, nat_tests)

pub tenfold-eq : (a b : ℕ) → (10 * a == 10 * b) ≡ (a == b)
tenfold-eq a b = grind (arith, nat_tests)

pub placed-tenfold : (n : ℕ) (ns : List ℕ) → placed (λ m. m) (10 * n) (map (λ m. 10 * m) ns) ≡ map (λ m. 10 * m) (placed (λ m. m) n ns)
placed-tenfold n ns =
    let f = λ (m : ℕ). 10 * m in
    (λ j. filter-mapped f (λ m. nat_lt m (10 * n)) ns j ++ 10 * n ∷ filter-mapped f (λ m. nat_lt (10 * n) m) ns j)
    ∙ (λ j. map f (filter (λ m. tenfold-lt m n j) ns) ++ 10 * n ∷ map f (filter (λ m. tenfold-lt n m j) ns))
    ∙ sym (map-append f (filter (λ m. nat_lt m n) ns) (n ∷ filter (λ m. nat_lt n m) ns))

all_placed-tenfold : (start ns : List ℕ) → fold (λ ys n. placed (λ m. m) n ys) (map (λ m. 10 * m) start) (map (λ m. 10 * m) ns)
    ≡ map (λ m. 10 * m) (fold (λ ys n. placed (λ m. m) n ys) start ns)
all_placed-tenfold start [] = refl
all_placed-tenfold start (n ∷ ns) = ap (λ s. fold (λ ys n. placed (λ m. m) n ys) s (map (λ m. 10 * m) ns)) (placed-tenfold n start)
    ∙ all_placed-tenfold (placed (λ m. m) n start) ns

pub last_of_each-tenfold : (ns : List ℕ) → last_of_each (λ m. m) (map (λ m. 10 * m) ns) ≡ map (λ m. 10 * m) (last_of_each (λ m. m) ns)
last_of_each-tenfold ns = all_placed-tenfold [] ns
