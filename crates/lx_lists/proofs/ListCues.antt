-- The cues of each list: what is left of a show's once those of the other are taken out.
use Rattle.lx_lists.proofs.Imports.{◌≡◌, ℕ, zero, suc, ◌-◌, ◌<◌, ◌≤◌, Bool, true, false, cond, List, [], ◌∷◌, length, Some}
use Rattle.lx_lists.proofs.Imports.{refl, ◌∙◌, sym, ap, arith, IsTrue, filter, not, nat_lt, nat_le, ◌==◌, is_some, slice_get, AllByRecursion}
use Rattle.lx_lists.proofs.Imports.{SECOND_LIST, IsStrictlySorted, entry_at, has_entry, taken_out, Cue, Show, first_show, second_show}
use Rattle.lx_spec.specs.EditedShow.{without_cue}
use Rattle.lx_spec.proofs.Comparisons.{lt_true, lt_false, lt_from, le_true, le_false, eq_true, eq_from}
use Rattle.lx_spec.proofs.Lists.{decided, each, filter_all, shorter}

aside_step : {A : Type 0} (key : A → ℕ) (p : ℕ → Bool) (n : ℕ) (x : A) (xs : List A) (b : Bool) → (key x == n) ≡ b → p n ≡ false
    → filter (λ y. p (key y)) (taken_out key n xs) ≡ filter (λ y. p (key y)) xs
    → filter (λ y. p (key y)) (cond (not b) (x ∷ taken_out key n xs) (taken_out key n xs)) ≡ filter (λ y. p (key y)) (x ∷ xs)
aside_step key p n x xs true is fails rest =
    let here : p (key x) ≡ false = ap p (sym (eq_from (key x) n is)) ∙ fails in rw here rest
aside_step {A} key p n x xs false is fails rest = ap (λ (ys : List A). cond (p (key x)) (x ∷ ys) ys) rest

-- to take out an entry that doesn't pass leaves those that do
taken_aside : {A : Type 0} (key : A → ℕ) (p : ℕ → Bool) (n : ℕ) (xs : List A) → p n ≡ false
    → filter (λ y. p (key y)) (taken_out key n xs) ≡ filter (λ y. p (key y)) xs
taken_aside key p n [] fails = refl
taken_aside key p n (x ∷ xs) fails = aside_step key p n x xs (key x == n) refl fails (taken_aside key p n xs fails)

pub second_left : (show : Show) (n : ℕ) → n < SECOND_LIST → second_show (without_cue show n) ≡ second_show show
second_left show n below = ap (λ (cues : List Cue). record show { cues = cues })
    (taken_aside (λ cue. cue.number) (λ k. nat_le SECOND_LIST k) n show.cues (le_false SECOND_LIST n below))

pub first_left : (show : Show) (n : ℕ) → SECOND_LIST ≤ n → first_show (without_cue show n) ≡ first_show show
first_left show n from = ap (λ (cues : List Cue). record show { cues = cues })
    (taken_aside (λ cue. cue.number) (λ k. nat_lt k SECOND_LIST) n show.cues (lt_false n SECOND_LIST from))

shorter_step : {A : Type 0} (key : A → ℕ) (n : ℕ) (x : A) (xs : List A) (b : Bool)
    → (IsTrue (has_entry key n xs) → length (taken_out key n xs) < length xs)
    → IsTrue (is_some (cond b (Some x) (entry_at key n xs)))
    → length (cond (not b) (x ∷ taken_out key n xs) (taken_out key n xs)) < suc (length xs)
shorter_step key n x xs true rest there = omega (arith, shorter (λ y. not (key y == n)) xs)
shorter_step key n x xs false rest there = omega (arith, rest there)

-- an entry that is there is one less without it
pub one_less : {A : Type 0} (key : A → ℕ) (n : ℕ) (xs : List A) → IsTrue (has_entry key n xs) → length (taken_out key n xs) < length xs
one_less key n [] there = absurd cc
one_less key n (x ∷ xs) there = shorter_step key n x xs (key x == n) (one_less key n xs) there

-- the entry at a place is found by its number
pub stands_there : {A : Type 0} (key : A → ℕ) (xs : List A) (k : ℕ) (x : A) → slice_get xs k ≡ Some x → IsTrue (has_entry key (key x) xs)
stands_there key [] k x is = absurd cc
stands_there {A} key (y ∷ ys) zero x is =
    let same : y ≡ x = cc in
    let here : (key y == key x) ≡ true = eq_true (key y) (key x) (ap key same) in
    rw here refl
stands_there key (y ∷ ys) (suc k) x is =
    decided (λ o. IsTrue (is_some o)) (key y == key x) (Some y) (entry_at key (key x) ys) (λ same. refl) (λ other. stands_there key ys k x is)

all_from : (cues : List Cue) (cue : Cue) → IsStrictlySorted (λ x. x.number) cues → slice_get cues 0 ≡ Some cue → SECOND_LIST ≤ cue.number
    → AllByRecursion (λ x. nat_le SECOND_LIST x.number ≡ true) cues
all_from [] cue sorted is from = tt
all_from (x ∷ xs) cue sorted is from =
    let same : x ≡ cue = cc in
    let first : SECOND_LIST ≤ x.number = omega (arith, from, ap (λ (y : Cue). y.number) same) in
    (le_true SECOND_LIST x.number first, each _ _ xs (λ y h. le_true SECOND_LIST y.number (omega (arith, first, h))) sorted.0)

all_below : (cues : List Cue) (cue : Cue) → IsStrictlySorted (λ x. x.number) cues → slice_get cues (length cues - 1) ≡ Some cue
    → cue.number < SECOND_LIST → AllByRecursion (λ x. nat_lt x.number SECOND_LIST ≡ true) cues
all_below [] cue sorted is below = tt
all_below (x ∷ []) cue sorted is below =
    let same : x ≡ cue = cc in (lt_true x.number SECOND_LIST (omega (arith, below, ap (λ (y : Cue). y.number) same)), tt)
all_below (x ∷ y ∷ ys) cue sorted is below =
    let at : length (x ∷ y ∷ ys) - 1 ≡ suc (length (y ∷ ys) - 1) = omega arith in
    let rest : AllByRecursion (λ z. nat_lt z.number SECOND_LIST ≡ true) (y ∷ ys) =
    all_below (y ∷ ys) cue sorted.1 (sym (ap (slice_get (x ∷ y ∷ ys)) at) ∙ is) below in
    (lt_true x.number SECOND_LIST (omega (arith, sorted.0.0, lt_from y.number SECOND_LIST rest.0)), rest)

with_cues : (show : Show) (cues : List Cue) → cues ≡ show.cues → record show { cues = cues } ≡ show
with_cues show cues same = ap (λ (xs : List Cue). record show { cues = xs }) same

-- the lowest cue is of the second list, or there is none
pub all_second : (show : Show) (cue : Cue) → IsStrictlySorted (λ x. x.number) show.cues → slice_get show.cues 0 ≡ Some cue
    → SECOND_LIST ≤ cue.number → second_show show ≡ show
all_second show cue sorted is from = with_cues show _ (filter_all _ show.cues (all_from show.cues cue sorted is from))

-- the highest cue is of the first list, or there is none
pub all_first : (show : Show) (cue : Cue) → IsStrictlySorted (λ x. x.number) show.cues
    → slice_get show.cues (length show.cues - 1) ≡ Some cue → cue.number < SECOND_LIST → first_show show ≡ show
all_first show cue sorted is below = with_cues show _ (filter_all _ show.cues (all_below show.cues cue sorted is below))
