-- Small facts on lists, tests and ranges of numbers.
use Rattle.lx_edit.proofs.Imports.{◌≡◌, ℕ, zero, suc, ◌+◌, ◌<◌, ◌≤◌, Bool, true, false, cond, List, [], ◌∷◌, ◌++◌, refl}
use Rattle.lx_edit.proofs.Imports.{◌∙◌, sym, ap, map, arith, filter, find, ◌&&◌, AllByRecursion, range_with_len, filter-append, Option, Some, None}
use Rattle.lx_edit.proofs.Imports.{map-range_with_len_more, map-append, IfSome, IsTrue, is_some, false≢true, and_known, each, passes}
use Rattle.lx_edit.proofs.Imports.{filter_agree, filter_all, filter_none, Result, Ok, Err, IfOk, entry_at, found_number}

-- what holds of whatever is found, holds if something is found
pub if_found : {A : Type 0} {P : A → Type 0} (o : Option A) → ((x : A) → o ≡ Some x → P x) → IfSome o P
if_found None holds = tt
if_found (Some x) holds = holds x refl

-- what follows from whatever there is
pub with_some : {A P : Type 0} (o : Option A) → IsTrue (is_some o) → ((x : A) → o ≡ Some x → P) → P
with_some None some f = absurd (false≢true some)
with_some (Some x) some f = f x refl

-- a copy has the number of what was found
pub numbered : {A E : Type 0} (key : A → ℕ) (r : Result A E) (old : A) (n : ℕ) (xs : List A) → IfOk r (λ x. x ≡ old)
    → Some old ≡ entry_at key n xs → IfOk r (λ x. key x ≡ n)
numbered key (Ok x) old n xs same found = ap key same ∙ sym (found_number key n xs old (sym found))
numbered key (Err fault) old n xs same found = tt

-- the numbers of a range are below its end
pub range_below : (a n top : ℕ) → a + n ≤ top → AllByRecursion (λ k. k < top) (range_with_len a n)
range_below a zero top within = tt
range_below a (suc n) top within = (omega arith, range_below (a + 1) n top (omega arith))

-- what comes of each element holds of what is made of it
pub each_mapped : {A B : Type 0} (P : A → Type 0) (Q : B → Type 0) (f : A → B) (xs : List A) → ((x : A) → P x → Q (f x)) → AllByRecursion P xs
    → AllByRecursion Q (map f xs)
each_mapped P Q f [] step all = tt
each_mapped P Q f (x ∷ xs) step all = (step x all.0, each_mapped P Q f xs step all.1)

-- two filters, one after the other
filter_both : {A : Type 0} (p q : A → Bool) (xs : List A) → filter q (filter p xs) ≡ filter (λ x. p x && q x) xs
filter_both p q [] = refl
filter_both p q (x ∷ xs) = elim (p x) as (λ b. filter q (cond b (x ∷ filter p xs) (filter p xs))
    ≡ cond (b && q x) (x ∷ filter (λ y. p y && q y) xs) (filter (λ y. p y && q y) xs)) [
      | true ↦ ap (λ ys. cond (q x) (x ∷ ys) ys) (filter_both p q xs)
      | false ↦ filter_both p q xs
    ]

-- a filter behind another: what it keeps, the other kept; it keeps all of that; or none
pub filter_within : {A : Type 0} (p q : A → Bool) (xs : List A) → ((x : A) → p x ≡ true → q x ≡ true) → filter p (filter q xs) ≡ filter p xs
filter_within p q xs keeps = filter_both q p xs ∙ filter_agree (λ x. q x && p x) p (λ x. and_known (q x) (p x) (keeps x)) xs

pub filter_again : {A : Type 0} (p q : A → Bool) (xs : List A) → ((x : A) → q x ≡ true → p x ≡ true) → filter p (filter q xs) ≡ filter q xs
filter_again p q xs keeps = filter_all p (filter q xs) (each _ _ _ keeps (passes q xs))

pub filter_lost : {A : Type 0} (p q : A → Bool) (xs : List A) → ((x : A) → q x ≡ true → p x ≡ false) → filter p (filter q xs) ≡ []
filter_lost p q xs loses = filter_none p (filter q xs) (each _ _ _ loses (passes q xs))

-- the first of a range fails the test
pub find_next : (p : ℕ → Bool) (n k m : ℕ) → p n ≡ false → k ≡ suc m → find p (range_with_len n k) ≡ find p (range_with_len (n + 1) m)
find_next p n k m fails is = ap (λ j. find p (range_with_len n j)) is ∙ rw fails refl

map_same : {A : Type 0} (xs : List A) → map (λ x. x) xs ≡ xs
map_same [] = refl
map_same (x ∷ xs) = ap (λ ys. x ∷ ys) (map_same xs)

-- what is made of those of a range that pass a test, with one more number
pub chosen_more : {A : Type 0} (p : ℕ → Bool) (f : ℕ → A) (a k j : ℕ) → a + k ≡ j
    → map f (filter p (range_with_len a (k + 1))) ≡ map f (filter p (range_with_len a k)) ++ cond (p j) (f j ∷ []) []
chosen_more p f a k j is =
    let more = sym (map_same (range_with_len a (k + 1))) ∙ map-range_with_len_more (λ x. x) a k j is
    ∙ ap (λ xs. xs ++ (j ∷ [])) (map_same (range_with_len a k)) in
    ap (λ xs. map f (filter p xs)) more
    ∙ ap (map f) (filter-append p (range_with_len a k) (j ∷ []))
    ∙ map-append f (filter p (range_with_len a k)) (filter p (j ∷ []))
    ∙ elim (p j) as (λ b. map f (filter p (range_with_len a k)) ++ map f (cond b (j ∷ []) [])
    ≡ map f (filter p (range_with_len a k)) ++ cond b (f j ∷ []) []) [ true ↦ refl | false ↦ refl ]

-- numbers that fail a test add nothing to those of a range that pass it
pub none_past : (test : ℕ → Bool) (a k r m : ℕ) → m ≡ k + r → ((c : ℕ) → a + k ≤ c → c < a + m → test c ≡ false)
    → filter test (range_with_len a m) ≡ filter test (range_with_len a k)
none_past test a zero zero m is fails = ap (λ j. filter test (range_with_len a j)) is
none_past test a zero (suc r) m is fails =
    let more : m ≡ suc r = omega (arith, is) in
    ap (λ j. filter test (range_with_len a j)) more ∙ rw (fails a (omega arith) (omega (arith, more)))
    (none_past test (a + 1) zero r r (omega arith) (λ c low high. fails c (omega arith) (omega (arith, more))))
none_past test a (suc k) r m is fails =
    let more : m ≡ suc (k + r) = omega (arith, is) in
    ap (λ j. filter test (range_with_len a j)) more ∙ ap (λ xs. cond (test a) (a ∷ xs) xs)
    (none_past test (a + 1) k r (k + r) refl (λ c low high. fails c (omega arith) (omega (arith, more))))
