-- The rows of the tables of ready texts.
use Rattle.lx_script.proofs.Imports.{◌≡◌, ℕ, ◌+◌, ◌-◌, ◌/◌, ◌%◌, ◌<◌, ◌≤◌, List, [], ◌∷◌, ◌++◌, length, get_or, map}
use Rattle.lx_script.proofs.Imports.{take, decimal, refl, ap, sym, ◌∙◌, arith, cond, inl, inr, ◌⊎◌, range_with_len, pair, decimal_pair, decimal_two}
use Rattle.lx_script.proofs.Imports.{length_one, length_two, decimal_digit, length-decimal-le, nat_lt, ◌==◌, cases_Bool, cases_lt, lt_false, lt_true}
use Rattle.lx_script.proofs.Imports.{length_three, length_four, COUNTS, LEVELS, NUMBERS, PAIRS}
use Rattle.std.proofs.lemmas.List.FromFn.{get_or-map-range_with_len}

-- a byte and a number of at most three digits, at the front of four bytes
abbrev pub ready : ℕ → ℕ → List ℕ
ready before n = cond (nat_lt n 10) (before ∷ (48 + n) ∷ 32 ∷ 32 ∷ [])
    (cond (nat_lt n 100) (before ∷ (48 + n / 10) ∷ (48 + n % 10) ∷ 32 ∷ [])
    (before ∷ (48 + n / 100) ∷ (48 + n % 100 / 10) ∷ (48 + n % 100 % 10) ∷ []))

levels_are : LEVELS ≡ map (ready 61) (range_with_len 0 300)
levels_are = refl

numbers_are : NUMBERS ≡ map (ready 32) (range_with_len 0 1000)
numbers_are = refl

-- how many bytes the cell of a level is, by the number's digits and one
abbrev count : ℕ → ℕ → ℕ
count w v = cond (v == 0) 0 (w + cond (nat_lt v 10) 2 (cond (nat_lt v 100) 3 4))

counts_are : COUNTS ≡ map (λ w. map (count w) (range_with_len 0 300)) (range_with_len 2 4)
counts_are = refl

pairs_are : PAIRS ≡ map pair (range_with_len 0 100)
pairs_are = refl

pub pair_row : (n : ℕ) (d : List ℕ) → n < 100 → get_or PAIRS n d ≡ pair n
pair_row n d lt = ap (λ rows. get_or rows n d) pairs_are ∙ get_or-map-range_with_len pair 0 100 n n d lt (omega arith)

pub level_row : (v : ℕ) (d : List ℕ) → v < 256 → get_or LEVELS v d ≡ ready 61 v
level_row v d lt = ap (λ rows. get_or rows v d) levels_are ∙ get_or-map-range_with_len (ready 61) 0 300 v v d (omega (arith, lt)) (omega arith)

pub number_row : (n : ℕ) (d : List ℕ) → n < 1000 → get_or NUMBERS n d ≡ ready 32 n
number_row n d lt = ap (λ rows. get_or rows n d) numbers_are ∙ get_or-map-range_with_len (ready 32) 0 1000 n n d lt (omega arith)

pub three_digits : (n : ℕ) → 100 ≤ n → n < 1000 → decimal n ≡ (48 + n / 100) ∷ (48 + n % 100 / 10) ∷ (48 + n % 100 % 10) ∷ []
three_digits n lo hi = decimal_pair n lo (omega arith) ∙ ap (λ front. front ++ pair (n % 100)) (decimal_digit (n / 100) (omega arith))

pub ready_front : (before n count : ℕ) → n < 1000 → count ≡ length (decimal n) + 1 → take count (ready before n) ≡ before ∷ decimal n
ready_front before n count lt is =
    elim (cases_lt n 10) [
      | inl low ↦
          let two : count ≡ 2 = omega (arith, length_one n low) in
          rw (lt_true n 10 low, two, decimal_digit n low) refl
      | inr from ↦ elim (cases_lt n 100) [
        | inl low ↦
            let three : count ≡ 3 = omega (arith, length_two n from low) in
            rw (lt_false n 10 from, lt_true n 100 low, three, decimal_two n from low) refl
        | inr more ↦
            let four : count ≡ 4 = omega (arith, length_three n more lt) in
            rw (lt_false n 10 from, lt_false n 100 more, four, three_digits n more lt) refl
      ]
    ]

pub count_at : (w v : ℕ) → 2 ≤ w → w ≤ 5 → v < 256
    → get_or (get_or COUNTS (w - 2) []) v 0 ≡ cond (v == 0) 0 (w + (length (decimal v) + 1))
count_at w v least most lt =
    let row : get_or COUNTS (w - 2) [] ≡ map (count w) (range_with_len 0 300)
    = ap (λ rows. get_or rows (w - 2) []) counts_are
    ∙ get_or-map-range_with_len (λ w. map (count w) (range_with_len 0 300)) 2 4 (w - 2) w [] (omega arith) (omega arith) in
    let is : get_or (get_or COUNTS (w - 2) []) v 0 ≡ count w v
    = ap (λ counts. get_or counts v 0) row ∙ get_or-map-range_with_len (count w) 0 300 v v 0 (omega (arith, lt)) (omega arith) in
    elim (cases_lt v 10) [
      | inl low ↦ rw (is, lt_true v 10 low, length_one v low) refl
      | inr from ↦ elim (cases_lt v 100) [
        | inl low ↦ rw (is, lt_false v 10 from, lt_true v 100 low, length_two v from low) refl
        | inr more ↦ rw (is, lt_false v 10 from, lt_false v 100 more, length_three v more (omega arith)) refl
      ]
    ]

pub few_in_cell : (w v : ℕ) → w ≤ 5 → v < 256 → cond (v == 0) 0 (w + (length (decimal v) + 1)) ≤ 9
few_in_cell w v most lt =
    let digits = length-decimal-le 3 v (omega arith) (omega arith) (omega arith) in
    elim (cases_Bool (v == 0)) [ inl zero ↦ rw zero (omega arith) | inr some ↦ rw some (omega (arith, digits)) ]

-- numbers with as many digits
pub same_digits : (a n most : ℕ) → a < n → n ≤ most
    → ((most ≡ 9) ⊎ ((9 ≤ a) × (most ≡ 99))) ⊎ (((99 ≤ a) × (most ≡ 999)) ⊎ ((999 ≤ a) × (most ≡ 9999)))
    → length (decimal n) ≡ length (decimal (a + 1))
same_digits a n most more within (inl (inl is)) = length_one n (omega arith) ∙ sym (length_one (a + 1) (omega arith))
same_digits a n most more within (inl (inr is)) =
    length_two n (omega arith) (omega arith) ∙ sym (length_two (a + 1) (omega arith) (omega arith))
same_digits a n most more within (inr (inl is)) =
    length_three n (omega arith) (omega arith) ∙ sym (length_three (a + 1) (omega arith) (omega arith))
same_digits a n most more within (inr (inr is)) =
    length_four n (omega arith) (omega arith) ∙ sym (length_four (a + 1) (omega arith) (omega arith))

pub three_at_most : (n : ℕ) → n ≤ 9999 → length (decimal n) + 1 < 5 → n < 1000
three_at_most n near few = elim (cases_lt n 1000) [
  | inl low ↦ low
  | inr from ↦ absurd (omega (arith, length_four n from (omega arith)))
]

pub four_at_least : (n : ℕ) → n ≤ 9999 → 5 ≤ length (decimal n) + 1 → 1000 ≤ n
four_at_least n near many = elim (cases_lt n 1000) [
  | inl low ↦ elim (cases_lt n 100) [
    | inl two ↦ absurd (omega (arith, length-decimal-le 2 n (omega arith) (omega arith) (omega arith)))
    | inr three ↦ absurd (omega (arith, length_three n three low))
  ]
  | inr from ↦ from
]
