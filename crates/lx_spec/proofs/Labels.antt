-- Labels: how one more byte changes the label that is made from bytes, and that a label is its own.
use Rattle.lx_spec.proofs.Imports.{◌≡◌, ℕ, zero, suc, ◌<◌, ◌≤◌, Bool, true, false, cond, not, ◌==◌, ◌||◌, ◌&&◌, nat_lt, List, []}
use Rattle.lx_spec.proofs.Imports.{◌∷◌, ◌++◌, filter, take, length, refl, if◌then◌else◌, IsTrue, AllByRecursion, arith, ap, ◌∙◌, sym}
use Rattle.lx_spec.proofs.Imports.{append-nil, take-append-le, take_all, length-append, length-take, take-take, filter-append, nat_tests, LABEL_BYTES, is_blank}
use Rattle.lx_spec.proofs.Imports.{is_filled, after_all, label_of}

-- no CR and no LF
abbrev kept_byte : ℕ → Bool
kept_byte b = not (b == 13 || b == 10)

-- the bytes with one more, unless they are to begin with a blank
abbrev begun_with : (ℕ → Bool) → List ℕ → ℕ → List ℕ
begun_with test xs b = if is_filled xs then xs ++ b ∷ [] else after_all test (b ∷ [])

after_all-append : (test : ℕ → Bool) (xs : List ℕ) (b : ℕ) → after_all test (xs ++ b ∷ []) ≡ begun_with test (after_all test xs) b
after_all-append test [] b = refl
after_all-append test (x ∷ xs) b = grind (arith, after_all-append test xs b)

-- the label with one more byte
abbrev pub with_byte : List ℕ → ℕ → List ℕ
with_byte label b = if kept_byte b && nat_lt (length label) LABEL_BYTES then begun_with is_blank label b else label

after_all-short : (test : ℕ → Bool) (b : ℕ) → length (after_all test (b ∷ [])) ≤ 1
after_all-short test b = elim (test b) as (λ v. length (cond v [] (b ∷ [])) ≤ 1) [ true ↦ omega arith | false ↦ omega arith ]

pub with_full : (label : List ℕ) (b : ℕ) → (length label == LABEL_BYTES) ≡ true → label ≡ with_byte label b
with_full label b full =
    let few : nat_lt (length label) LABEL_BYTES ≡ false = grind (arith, nat_tests, full) in
    elim (kept_byte b) as (λ k. label ≡ (if k && nat_lt (length label) LABEL_BYTES then begun_with is_blank label b else label))
    [ true ↦ rw few refl | false ↦ refl ]

pub with_first_blank : (label : List ℕ) (b : ℕ) → (b == 13 || b == 10) ≡ false → (length label == 0) ≡ true → is_blank b ≡ true
    → label ≡ with_byte label b
with_first_blank [] b ends none blank = rw (ends, blank) refl
with_first_blank (x ∷ xs) b ends none blank = absurd (grind (arith, nat_tests, none))

pub with_other : (label : List ℕ) (b : ℕ) → (b == 13 || b == 10) ≡ false → length label < LABEL_BYTES
    → (length label == 0 && is_blank b) ≡ false → label ++ b ∷ [] ≡ with_byte label b
with_other [] b ends few blank = rw (ends, blank) refl
with_other (x ∷ xs) b ends few blank =
    let room : nat_lt (length (x ∷ xs)) LABEL_BYTES ≡ true = grind (arith, nat_tests, few) in
    rw (ends, room) refl

cut_with : (n : ℕ) (test : ℕ → Bool) (xs : List ℕ) (b : ℕ) → 1 ≤ n
    → take n (begun_with test xs b) ≡ (if nat_lt (length (take n xs)) n then begun_with test (take n xs) b else take n xs)
cut_with zero test xs b some = absurd (omega (arith, some))
cut_with (suc n) test [] b some = grind (arith, nat_tests, take_all (suc n) (after_all test (b ∷ [])), after_all-short test b)
cut_with (suc n) test (x ∷ xs) b some = grind (
  arith,
  nat_tests,
  take-append-le (suc n) (x ∷ xs) (b ∷ []),
  take_all (suc n) (x ∷ xs),
  take_all (suc n) (x ∷ (xs ++ b ∷ [])),
  length-append xs (b ∷ []),
  length-take (suc n) (x ∷ xs),
)

with_kept : (k : Bool) (xs : List ℕ) (b : ℕ)
    → take LABEL_BYTES (after_all is_blank (xs ++ cond k (b ∷ []) []))
    ≡ (if k && nat_lt (length (take LABEL_BYTES (after_all is_blank xs))) LABEL_BYTES then begun_with is_blank
    (take LABEL_BYTES (after_all is_blank xs)) b else take LABEL_BYTES (after_all is_blank xs))
with_kept true xs b = ap (λ ys. take LABEL_BYTES ys) (after_all-append is_blank xs b)
    ∙ cut_with LABEL_BYTES is_blank (after_all is_blank xs) b (omega arith)
with_kept false xs b = ap (λ ys. take LABEL_BYTES (after_all is_blank ys)) (append-nil xs)

pub label_of-append : (xs : List ℕ) (b : ℕ) → label_of (xs ++ b ∷ []) ≡ with_byte (label_of xs) b
label_of-append xs b = ap (λ ys. take LABEL_BYTES (after_all is_blank ys)) (filter-append kept_byte xs (b ∷ []))
    ∙ with_kept (kept_byte b) (filter kept_byte xs) b

-- each byte passes the test
abbrev Passes : (ℕ → Bool) → List ℕ → Type 0
Passes test xs = AllByRecursion (λ x. IsTrue (test x)) xs

Passes-filter : (test : ℕ → Bool) (xs : List ℕ) → Passes test (filter test xs)
Passes-filter test [] = tt
Passes-filter test (x ∷ xs) =
    let P : (b : Bool) → test x ≡ b → Passes test (cond b (x ∷ filter test xs) (filter test xs)) =
    λ b. elim b as (λ v. test x ≡ v → Passes test (cond v (x ∷ filter test xs) (filter test xs)))
    [ true ↦ λ e. (grind (arith, e), Passes-filter test xs) | false ↦ λ e. Passes-filter test xs ] in
    P (test x) refl

Passes-after_all : (test skipped : ℕ → Bool) (xs : List ℕ) → Passes test xs → Passes test (after_all skipped xs)
Passes-after_all test skipped [] all = tt
Passes-after_all test skipped (x ∷ xs) all =
    elim (skipped x) as (λ v. Passes test (cond v (after_all skipped xs) (x ∷ xs)))
    [ true ↦ Passes-after_all test skipped xs all.1 | false ↦ all ]

Passes-take : (test : ℕ → Bool) (n : ℕ) (xs : List ℕ) → Passes test xs → Passes test (take n xs)
Passes-take test zero xs all = tt
Passes-take test (suc n) [] all = tt
Passes-take test (suc n) (x ∷ xs) all = (all.0, Passes-take test n xs all.1)

filter_passed : (test : ℕ → Bool) (xs : List ℕ) → Passes test xs → filter test xs ≡ xs
filter_passed test [] all = refl
filter_passed test (x ∷ xs) all = grind (arith, all.0, filter_passed test xs all.1)

begins_once : (test : ℕ → Bool) (n : ℕ) (xs : List ℕ) → after_all test (take n (after_all test xs)) ≡ take n (after_all test xs)
begins_once test zero xs = refl
begins_once test (suc n) [] = refl
begins_once test (suc n) (x ∷ xs) = grind (arith, begins_once test (suc n) xs)

-- a label is the label of its bytes
pub label_of-label_of : (xs : List ℕ) → label_of (label_of xs) ≡ label_of xs
label_of-label_of xs =
    let cut = after_all is_blank (filter kept_byte xs) in
    ap (λ ys. take LABEL_BYTES (after_all is_blank ys))
    (filter_passed kept_byte (take LABEL_BYTES cut)
    (Passes-take kept_byte LABEL_BYTES cut (Passes-after_all kept_byte is_blank (filter kept_byte xs) (Passes-filter kept_byte xs))))
    ∙ ap (λ ys. take LABEL_BYTES ys) (begins_once is_blank LABEL_BYTES (filter kept_byte xs))
    ∙ take-take LABEL_BYTES LABEL_BYTES cut (omega arith)

pub label_of-is : (xs bytes : List ℕ) → bytes ≡ label_of xs → label_of bytes ≡ bytes
label_of-is xs bytes is = ap label_of is ∙ label_of-label_of xs ∙ sym is

pub one_more : (xs old new : List ℕ) (b : ℕ) → new ≡ with_byte old b → old ≡ label_of xs → new ≡ label_of (xs ++ b ∷ [])
one_more xs old new b step from = step ∙ ap (λ label. with_byte label b) from ∙ sym (label_of-append xs b)
