-- The rows of the table of channels' numbers.
use Rattle.lx_lex.proofs.Imports.{◌≡◌, ℕ, ◌+◌, ◌-◌, ◌/◌, ◌%◌, ◌<◌, ◌≤◌, true, List, ◌∷◌, ◌++◌, get_or}
use Rattle.lx_lex.proofs.Imports.{length, map, take, drop, decimal, arith, cond, inl, inr, refl, sym, ap, ◌∙◌, codes, eqb, nat_lt}
use Rattle.lx_lex.proofs.Imports.{range_with_len, starts_with, cases_Bool, cases_lt, Decides-eqb, nat_tests, decimal_digit, length-drop, take_all}
use Rattle.lx_lex.proofs.Imports.{get_or-map-range_with_len, starts_is, pair, decimal_two, decimal_pair, is_separator, begins_comment}
use Rattle.lx_lex.proofs.Imports.{tokens, lt_true, lt_false, EndsToken, FirstIsNumber}
use Rattle.lx_lex.specs.declared.names.TheConstants.{NUMBERS, DIGITS}
use Rattle.lx_lex.proofs.LineCuts.{tokens_by-separator}
use Rattle.lx_lex.proofs.PlainNumbers.{number_first}
use Rattle.lx_lex.proofs.Separators.{apart}

-- a number of at most four digits at the front of four bytes, and `@` behind it where there is room
abbrev long : ℕ → List ℕ
long n = cond (nat_lt n 1000) ((48 + n / 100) ∷ (pair (n % 100) ++ codes "@")) (pair (n / 100) ++ pair (n % 100))

abbrev ready : ℕ → List ℕ
ready n = cond (nat_lt n 10) ((48 + n) ∷ codes "@  ") (cond (nat_lt n 100) (pair n ++ codes "@ ") (long n))

numbers_are : NUMBERS ≡ map ready (range_with_len 0 4100)
numbers_are = refl

number_row : (n : ℕ) (d : List ℕ) → n < 4097 → get_or NUMBERS n d ≡ ready n
number_row n d lt = ap (λ rows. get_or rows n d) numbers_are ∙ get_or-map-range_with_len ready 0 4100 n n d (omega (arith, lt)) (omega arith)

-- how many digits it has
abbrev digits : ℕ → ℕ
digits n = cond (nat_lt n 10) 1 (cond (nat_lt n 100) 2 (cond (nat_lt n 1000) 3 4))

digits_are : DIGITS ≡ map digits (range_with_len 0 4100)
digits_are = refl

abbrev IsReady : ℕ → List ℕ → ℕ → Type 0
IsReady n row count = (count ≡ length (decimal n)) × ((count ≤ 4) × (take (length (decimal n)) row ≡ decimal n))

ready_is : (n : ℕ) → n < 4097 → IsReady n (ready n) (digits n)
ready_is n lt =
    elim (cases_lt n 10) [
      | inl low ↦ rw (lt_true n 10 low, decimal_digit n low) (refl, (omega arith, refl))
      | inr from ↦ elim (cases_lt n 100) [
        | inl low ↦ rw (lt_false n 10 from, lt_true n 100 low, decimal_two n from low) (refl, (omega arith, refl))
        | inr more ↦ elim (cases_lt n 1000) [
          | inl low ↦
              rw (
                lt_false n 10 from,
                lt_false n 100 more,
                lt_true n 1000 low,
                decimal_pair n more (omega arith),
                decimal_digit (n / 100) (omega arith),
              )
              (refl, (omega arith, refl))
          | inr most ↦
              rw (
                lt_false n 10 from,
                lt_false n 100 more,
                lt_false n 1000 most,
                decimal_pair n more (omega arith),
                decimal_two (n / 100) (omega arith) (omega arith),
              )
              (refl, (omega arith, refl))
        ]
      ]
    ]

-- the rows of the two tables
pub rows_are : (n : ℕ) (d : List ℕ) (e : ℕ) → n < 4097 → IsReady n (get_or NUMBERS n d) (get_or DIGITS n e)
rows_are n d e lt =
    let count : get_or DIGITS n e ≡ digits n
    = ap (λ rows. get_or rows n e) digits_are ∙ get_or-map-range_with_len digits 0 4100 n n e (omega (arith, lt)) (omega arith) in
    rw (number_row n d lt, count) (ready_is n lt)

-- a line that begins with the row of a number of three digits or more
begins_row : {n : ℕ} (d line : List ℕ) → 100 ≤ n → n < 4097 → starts_with eqb line (get_or NUMBERS n d) ≡ true
    → line ≡ long n ++ take (length line - 4) (drop 4 line)
begins_row {n = n} d line least less begins =
    let row : get_or NUMBERS n d ≡ long n = number_row n d less ∙ (rw (lt_false n 10 (omega arith), lt_false n 100 least) refl) in
    let four : length (long n) ≡ 4 = elim (cases_Bool (nat_lt n 1000)) [ inl below ↦ rw below refl | inr more ↦ rw more refl ] in
    let is : line ≡ get_or NUMBERS n d ++ drop (length (get_or NUMBERS n d)) line =
    (starts_is Decides-eqb line (get_or NUMBERS n d) (starts_with eqb line (get_or NUMBERS n d)) refl).0 begins in
    is ∙ ap (λ (xs : List ℕ). xs ++ drop (length xs) line) row ∙ ap (λ k. long n ++ drop k line) four
    ∙ ap (λ xs. long n ++ xs) (sym (take_all (length line - 4) (drop 4 line) (rw length-drop (omega arith))))

pub three_first : {n : ℕ} (d line : List ℕ) → 100 ≤ n → n < 1000 → starts_with eqb line (get_or NUMBERS n d) ≡ true
    → FirstIsNumber (tokens line) n (tokens (take (length line - 4) (drop 4 line)))
three_first {n = n} d line least less begins =
    let rest : List ℕ = take (length line - 4) (drop 4 line) in
    let all = begins_row {n = n} d line least (omega arith) begins in
    let row = rw (lt_true n 1000 less) at all in
    number_first {rest = 64 ∷ rest} {others = rest}
    (record {
      digits = (48 + n / 100) ∷ pair (n % 100);
      are_digits = grind (arith, nat_tests, least, less);
      number = omega (arith, least, less);
      is_text = row;
    })
    (omega (arith, ap length row)) (record { ends = refl; same = tokens_by-separator is_separator begins_comment apart 64 rest refl })

-- the same of four digits, where the token ends behind them
pub four_first : {n : ℕ} (d line others : List ℕ) → 1000 ≤ n → n < 4097 → starts_with eqb line (get_or NUMBERS n d) ≡ true
    → EndsToken (take (length line - 4) (drop 4 line)) others → FirstIsNumber (tokens line) n (tokens others)
four_first {n = n} d line others least less begins ends =
    let all = begins_row {n = n} d line (omega arith) less begins in
    let row = rw (lt_false n 1000 least) at all in
    number_first
    (record {
      digits = pair (n / 100) ++ pair (n % 100);
      are_digits = grind (arith, nat_tests, less);
      number = omega (arith, less);
      is_text = row;
    })
    (omega (arith, ap length row)) ends
