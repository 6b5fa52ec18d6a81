-- What lists come to: all entries with a property, the entries that pass a test, the first or last of them, and maps.
use Rattle.lx_spec.proofs.Imports.{◌≡◌, ℕ, zero, suc, ◌-◌, ◌<◌, ◌≤◌, Bool, true, false, cond, List, [], ◌∷◌, ◌++◌, length}
use Rattle.lx_spec.proofs.Imports.{get_or, take, drop, Some, None, refl, ◌∙◌, sym, ap, subst, inl, inr, arith, Bor, Option, IfSome, filter, find, map}
use Rattle.lx_spec.proofs.Imports.{reverse, option_to_list, option_map, option_and_then, slice_get, ◌&&◌, option_copied, option_map_or, option_or}
use Rattle.lx_spec.proofs.Imports.{AllByRecursion, refill, reverse-cons, cases_Bool, length-reverse, get_or-reverse, append-nil, reverse-append}
use Rattle.lx_spec.proofs.Imports.{map-append, filter-append}
use Rattle.std.proofs.Math.Seq.{take-append_seam}
use Rattle.std.proofs.lemmas.Option.{slice_get-get_or}
use Rattle.lx_spec.proofs.Comparisons.{and_known}

-- what holds of each of two values holds of the one that a test chooses
pub decided : {A : Type 0} (P : A → Type 0) (b : Bool) (x y : A) → (b ≡ true → P x) → (b ≡ false → P y) → P (cond b x y)
decided P true x y one other = one refl
decided P false x y one other = other refl

pub each : {A : Type 0} (P Q : A → Type 0) (xs : List A) → ((x : A) → P x → Q x) → AllByRecursion P xs → AllByRecursion Q xs
each P Q [] f all = all
each P Q (x ∷ xs) f all = (f x all.0, each P Q xs f all.1)

pub all_append : {A : Type 0} (P : A → Type 0) (xs ys : List A) → AllByRecursion P xs → AllByRecursion P ys → AllByRecursion P (xs ++ ys)
all_append P [] ys all more = more
all_append P (x ∷ xs) ys all more = (all.0, all_append P xs ys all.1 more)

pub all_reverse : {A : Type 0} (P : A → Type 0) (xs : List A) → AllByRecursion P xs → AllByRecursion P (reverse xs)
all_reverse P [] all = tt
all_reverse P (x ∷ xs) all = rw (reverse-cons x xs) (all_append P (reverse xs) (x ∷ []) (all_reverse P xs all.1) (all.0, tt))

-- what all entries have, those that pass a test have
pub kept_by : {A : Type 0} (P : A → Type 0) (p : A → Bool) (xs : List A) → AllByRecursion P xs → AllByRecursion P (filter p xs)
kept_by P p [] all = tt
kept_by P p (x ∷ xs) all = elim (p x) as (λ b. AllByRecursion P (cond b (x ∷ filter p xs) (filter p xs)))
    [ true ↦ (all.0, kept_by P p xs all.1) | false ↦ kept_by P p xs all.1 ]

-- what a filter keeps passes its test
pub passes : {A : Type 0} (p : A → Bool) (xs : List A) → AllByRecursion (λ y. p y ≡ true) (filter p xs)
passes p [] = tt
passes p (x ∷ xs) = elim (cases_Bool (p x)) [ inl passed ↦ rw passed (passed, passes p xs) | inr failed ↦ rw failed (passes p xs) ]

-- what passes is kept, and what fails is not
pub filter_all : {A : Type 0} (p : A → Bool) (xs : List A) → AllByRecursion (λ x. p x ≡ true) xs → filter p xs ≡ xs
filter_all p [] all = refl
filter_all p (x ∷ xs) all = rw all.0 (ap (λ ys. x ∷ ys) (filter_all p xs all.1))

pub filter_none : {A : Type 0} (p : A → Bool) (xs : List A) → AllByRecursion (λ x. p x ≡ false) xs → filter p xs ≡ []
filter_none p [] all = refl
filter_none p (x ∷ xs) all = rw all.0 (filter_none p xs all.1)

pub find_none : {A : Type 0} (p : A → Bool) (xs : List A) → AllByRecursion (λ x. p x ≡ false) xs → find p xs ≡ None
find_none p [] all = refl
find_none p (x ∷ xs) all = rw all.0 (find_none p xs all.1)

pub find_after : {A : Type 0} (p : A → Bool) (front back : List A) → AllByRecursion (λ x. p x ≡ false) front
    → find p (front ++ back) ≡ find p back
find_after p [] back all = refl
find_after p (x ∷ xs) back all = rw all.0 (find_after p xs back all.1)

-- the first that passes is the first of those that pass
pub find_first : {A : Type 0} (p : A → Bool) (xs : List A) → slice_get (filter p xs) 0 ≡ find p xs
find_first p [] = refl
find_first p (x ∷ xs) = grind (arith, find_first p xs)

-- two tests, one after the other
pub find_both : {A : Type 0} (p q : A → Bool) (xs : List A) → find q (filter p xs) ≡ find (λ x. p x && q x) xs
find_both p q [] = refl
find_both p q (x ∷ xs) = grind (arith, find_both p q xs)

-- a filter keeps the order, from either end
pub filter-reverse : {A : Type 0} (p : A → Bool) (xs : List A) → filter p (reverse xs) ≡ reverse (filter p xs)
filter-reverse p [] = refl
filter-reverse p (x ∷ xs) = ap (filter p) (reverse-cons x xs) ∙ filter-append p (reverse xs) (x ∷ [])
    ∙ ap (λ ys. ys ++ filter p (x ∷ [])) (filter-reverse p xs)
    ∙ elim (p x) as (λ b. reverse (filter p xs) ++ cond b (x ∷ []) [] ≡ reverse (cond b (x ∷ filter p xs) (filter p xs)))
    [ true ↦ sym (reverse-cons x (filter p xs)) | false ↦ append-nil (reverse (filter p xs)) ]

pub sub-zero : (n : ℕ) → n - 0 ≡ n
sub-zero n = omega arith

pub first_of_reverse : {A : Type 0} (xs : List A) → slice_get (reverse xs) 0 ≡ slice_get xs (length xs - 1)
first_of_reverse [] = refl
first_of_reverse (x ∷ xs) =
    let there : 0 < length (reverse (x ∷ xs)) = omega (arith, length-reverse (x ∷ xs)) in
    slice_get-get_or (reverse (x ∷ xs)) 0 x there
    ∙ ap Some (get_or-reverse (x ∷ xs) 0 x (omega arith) ∙ ap (λ i. get_or (x ∷ xs) i x) (sub-zero (length (x ∷ xs) - 1)))
    ∙ sym (slice_get-get_or (x ∷ xs) (length (x ∷ xs) - 1) x (omega arith))

-- the last that passes is the last of those that pass
pub find_last : {A : Type 0} (p : A → Bool) (xs : List A) → slice_get (filter p xs) (length (filter p xs) - 1) ≡ find p (reverse xs)
find_last p xs = sym (first_of_reverse (filter p xs)) ∙ ap (λ ys. slice_get ys 0) (sym (filter-reverse p xs)) ∙ find_first p (reverse xs)

-- the last that passes two tests, among those that pass the first
pub find_both_last : {A : Type 0} (p q : A → Bool) (xs : List A) → find q (reverse (filter p xs)) ≡ find (λ x. p x && q x) (reverse xs)
find_both_last p q xs = ap (find q) (sym (filter-reverse p xs)) ∙ find_both p q (reverse xs)

pub none_differs : {A : Type 0} (x : A) → None ≡ Some x → ⊥
none_differs x is = cc

pub first_is : {A : Type 0} (y x : A) (b : Bool) (rest : Option A) → b ≡ true → cond b (Some y) rest ≡ Some x → y ≡ x
first_is y x b rest test found = let is : Some y ≡ Some x = rw test at found in cc

-- what is found passes the test
pub find_passes : {A : Type 0} (p : A → Bool) (xs : List A) (x : A) → find p xs ≡ Some x → p x ≡ true
find_passes p [] x is = absurd (none_differs x is)
find_passes p (y ∷ ys) x is = elim (cases_Bool (p y)) [
  | inl passed ↦ let same : Some y ≡ Some x = rw passed at is in cc
  | inr failed ↦ find_passes p ys x (rw failed at is)
]

-- a filter that keeps all that a test finds
pub find_in_filter : {A : Type 0} (p q : A → Bool) (xs : List A) → ((x : A) → p x ≡ true → q x ≡ true) → find p (filter q xs) ≡ find p xs
find_in_filter {A} p q xs keeps =
    let same : (λ x. q x && p x) ≡ p = λ i x. and_known (q x) (p x) (keeps x) i in
    find_both q p xs ∙ ap (λ (t : A → Bool). find t xs) same

-- what all entries have, the one that is found has
pub find_has : {A : Type 0} (P : A → Type 0) (test : A → Bool) (xs : List A) → AllByRecursion P xs → IfSome (find test xs) P
find_has P test [] all = tt
find_has P test (x ∷ xs) all = elim (test x) as (λ b. IfSome (cond b (Some x) (find test xs)) P)
    [ true ↦ all.0 | false ↦ find_has P test xs all.1 ]

pub lent_has : {A : Type 0} (P : A → Type 0) (test : A → Bool) (xs : List A) (found : Option (Bor A)) → option_copied found ≡ find test xs
    → AllByRecursion P xs → IfSome found (λ x. P x.now)
lent_has P test xs None is all = tt
lent_has {A} P test xs (Some x) is all = subst (λ (o : Option A). IfSome o P) (sym is) (find_has P test xs all)

pub found_has : {A : Type 0} (P : A → Type 0) (test : A → Bool) (xs : List A) (found : Option A) → found ≡ find test xs
    → AllByRecursion P xs → IfSome found P
found_has {A} P test xs found is all = subst (λ (o : Option A). IfSome o P) (sym is) (find_has P test xs all)

pub find_mapped : {X Y : Type 0} (f : X → Y) (p : Y → Bool) (xs : List X) → find p (map f xs) ≡ option_map f (find (λ x. p (f x)) xs)
find_mapped f p [] = refl
find_mapped f p (x ∷ xs) = grind (arith, find_mapped f p xs)

pub map_reversed : {X Y : Type 0} (f : X → Y) (xs : List X) → reverse (map f xs) ≡ map f (reverse xs)
map_reversed f [] = refl
map_reversed f (x ∷ xs) =
    reverse-append (f x ∷ []) (map f xs) ∙ ap (λ ys. ys ++ (f x ∷ [])) (map_reversed f xs)
    ∙ sym (ap (map f) (reverse-append (x ∷ []) xs) ∙ map-append f (reverse xs) (x ∷ []))

pub and_then_mapped : {X Y Z : Type 0} (f : X → Y) (g : Y → Option Z) (o : Option X)
    → option_and_then g (option_map f o) ≡ option_and_then (λ x. g (f x)) o
and_then_mapped f g None = refl
and_then_mapped f g (Some x) = refl

pub map_or_mapped : {X Y Z : Type 0} (f : X → Y) (g : Y → Z) (o : Option X) (z : Z)
    → option_map_or g (option_map f o) z ≡ option_map_or (λ x. g (f x)) o z
map_or_mapped f g None z = refl
map_or_mapped f g (Some x) z = refl

pub shorter : {A : Type 0} (p : A → Bool) (xs : List A) → length (filter p xs) ≤ length xs
shorter p [] = omega arith
shorter p (x ∷ xs) = grind (arith, shorter p xs)

pub or_none : {A : Type 0} (o : Option A) → option_or o None ≡ o
or_none None = refl
or_none (Some x) = refl

pub take_with : {A : Type 0} (xs : List A) (at : ℕ) → at < length xs → take (suc at) xs ≡ take at xs ++ option_to_list (slice_get xs at)
take_with [] at within = absurd (omega arith)
take_with (x ∷ xs) zero within = refl
take_with (x ∷ xs) (suc at) within = ap (λ ys. x ∷ ys) (take_with xs at (omega arith))

-- a slice of the whole list, written back
pub written_back : {A : Type 0} (xs ws : List A) → length ws ≡ length xs → refill (length xs) xs ws ≡ ws
written_back xs ws same = subst (λ n. take n (ws ++ drop (length ws) xs) ≡ ws) same (take-append_seam ws (drop (length ws) xs))
