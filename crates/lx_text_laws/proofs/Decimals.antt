-- Numbers that are written in decimal digits read back: whole numbers, times, cue numbers and levels.
use Rattle.lx_text_laws.proofs.Imports.{◌≡◌, ℕ, ◌+◌, ◌*◌, ◌/◌, ◌%◌, ◌^◌, ◌<◌, ◌≤◌, Bool, true, false, cond, not, ◌&&◌, ◌||◌, ◌==◌, nat_le, Result, Ok}
use Rattle.lx_text_laws.proofs.Imports.{Err, List, [], ◌∷◌, ◌++◌, length, decimal, refl, if◌then◌else◌, list_all, list_any, before_first, after_first}
use Rattle.lx_text_laws.proofs.Imports.{arith, ap, ◌∙◌, sym, subst, and_parts, nat_tests, length-decimal-le, length-append, append-nil, TIME_MAX}
use Rattle.lx_text_laws.proofs.Imports.{CUE_UNIT, CUE_MAX, Bad, Shape, desk_limits, is_filled, is_digit, is_number, number_of, is_point, is_colon}
use Rattle.lx_text_laws.proofs.Imports.{whole_part, has_point, decimals, is_decimal, decimal_value, ranged, read_minutes, read_seconds, read_time}
use Rattle.lx_text_laws.proofs.Imports.{read_cue_no, read_level, decimals_of, decimal_text, time_text, level_text, cue_number_text, ◌-◌, fold}
use Rattle.lx_text_laws.proofs.Imports.{decimal_is_IsNumeral, Range, read_whole}
use Rattle.std.proofs.lemmas.Bool.{agree_below, agree_below_at}
use Rattle.lx_text_laws.proofs.Tokens.{is_plain, all-append, all-weaker, before-past, after-past, any-past}
use Rattle.std.specs.Str.Parse.{AllDigits, digits_value_after}
use Rattle.std.specs.Char.{digit_value}
use Rattle.std.proofs.lemmas.Str.Parse.{digit_from_value}
use Rattle.std.proofs.lemmas.Str.{digit_value_digit}

pub all_digits : (ds : List ℕ) → AllDigits 10 ds → list_all is_digit ds ≡ true
all_digits [] all = refl
all_digits (d ∷ ds) all =
    let digit = digit_from_value d all.0 in
    let is : is_digit d ≡ true = grind (arith, nat_tests, digit) in
    ap (λ v. v && list_all is_digit ds) is ∙ all_digits ds all.1

folded : (n : ℕ) (ds : List ℕ) → AllDigits 10 ds → fold (λ m b. 10 * m + (b - 48)) n ds ≡ digits_value_after 10 n ds
folded n [] all = refl
folded n (d ∷ ds) all =
    let digit = digit_from_value d all.0 in
    let same : 10 * n + (d - 48) ≡ n * 10 + digit_value d = omega (arith, digit_value_digit d digit) in
    folded (10 * n + (d - 48)) ds all.1 ∙ ap (λ m. digits_value_after 10 m ds) same

filled : (ds : List ℕ) → 0 < length ds → is_filled ds ≡ true
filled [] some = absurd (omega (arith, some))
filled (d ∷ ds) some = refl

pub decimal-digits : (n : ℕ) → n < 2 ^ 64 → list_all is_digit (decimal n) ≡ true
decimal-digits n small = all_digits (decimal n) (decimal_is_IsNumeral n small).0.1

pub decimal-filled : (n : ℕ) → n < 2 ^ 64 → is_filled (decimal n) ≡ true
decimal-filled n small = filled (decimal n) (decimal_is_IsNumeral n small).0.0

pub decimal-number : (n : ℕ) → n < 2 ^ 64 → is_number (decimal n) ≡ true
decimal-number n small = λ j. decimal-filled n small j && decimal-digits n small j

pub decimal-value : (n : ℕ) → n < 2 ^ 64 → number_of (decimal n) ≡ n
decimal-value n small = folded 0 (decimal n) (decimal_is_IsNumeral n small).0.1 ∙ (decimal_is_IsNumeral n small).1

pub ranged-within : (least most n : ℕ) → least ≤ n → n ≤ most → ranged least most n ≡ Ok n
ranged-within least most n low high =
    let is : (nat_le least n && nat_le n most) ≡ true = grind (arith, nat_tests, low, high) in
    ap (λ b. cond b (Ok n) (Err Range)) is

-- a whole number reads back
pub read_whole-decimal : (least most n : ℕ) → least ≤ n → n ≤ most → most < 2 ^ 64 → read_whole least most (decimal n) ≡ Ok n
read_whole-decimal least most n low high small =
    let few : n < 2 ^ 64 = omega (arith, high, small) in
    ap (λ b. cond b (ranged least most (number_of (decimal n))) (Err Shape)) (decimal-number n few)
    ∙ ap (ranged least most) (decimal-value n few)
    ∙ ranged-within least most n low high

-- what holds of each number below a limit, by computation
abbrev pub AllBelow : (ℕ → Bool) → ℕ → Type 0
AllBelow test n = agree_below test (λ k. true) n ≡ true

abbrev pub is_mark : ℕ → Bool
is_mark b = is_digit b || is_point b

-- what stands behind the digits of a whole number: nothing, or a point and decimals, as many as the unit has, that give the rest
abbrev pub ends : ℕ → ℕ → List ℕ → Bool
ends unit r t =
    let ds = decimals t in
    (if has_point t then is_number ds else not (is_filled t)) && (not (is_filled (whole_part t)) &&
    (nat_le (10 ^ length ds) unit && (number_of ds * unit / 10 ^ length ds == r && (list_all is_mark t && nat_le (length t) 4))))

abbrev pub gives : ℕ → ℕ → Bool
gives unit r = ends unit r (if r == 0 then [] else 46 ∷ decimals_of 3 unit r)

pub hundredths : AllBelow (gives 100) 100
hundredths = refl

pub steps : AllBelow (gives CUE_UNIT) CUE_UNIT
steps = refl

-- A text of digits and points, of few bytes.
pub record IsNumberText (text : List ℕ) : Type 0 where
  pub marks : list_all is_mark text ≡ true
  pub filled : is_filled text ≡ true
  pub short : length text ≤ 24

pub number_plain : (text : List ℕ) → IsNumberText text → list_all is_plain text ≡ true
number_plain text t = all-weaker is_mark is_plain text (λ b is. grind (arith, nat_tests, is)) t.marks

pub whole_text : (n : ℕ) → n < 2 ^ 64 → IsNumberText (decimal n)
whole_text n small = record {
  marks = all-weaker is_digit is_mark (decimal n) (λ b is. ap (λ v. v || is_point b) is) (decimal-digits n small);
  filled = decimal-filled n small;
  short = omega (arith, length-decimal-le 20 n (omega arith) (omega (arith, small)) small);
}

-- A text of decimals reads back.
pub record ReadsDecimal (unit n : ℕ) (token : List ℕ) : Type 0 where
  pub form : is_decimal token ≡ true
  pub fine : nat_le (10 ^ length (decimals token)) unit ≡ true
  pub value : decimal_value unit token ≡ n
  pub text : IsNumberText token

nothing : (text : List ℕ) → not (is_filled text) ≡ true → text ≡ []
nothing [] is = refl
nothing (b ∷ text) is = cc

filled-append : (a b : List ℕ) → is_filled a ≡ true → is_filled (a ++ b) ≡ true
filled-append [] b is = cc
filled-append (x ∷ a) b is = refl

is_formed : (q : ℕ) (b is_some : Bool) (t : List ℕ) → q < 2 ^ 64 → cond b is_some (not (is_filled t)) ≡ true
    → cond b is_some (is_number (decimal q ++ t)) ≡ true
is_formed q true is_some t small is = is
is_formed q false is_some t small is = (λ j. is_number (decimal q ++ nothing t is j)) ∙ ap is_number (append-nil (decimal q))
    ∙ decimal-number q small

with_end : (unit q r : ℕ) (t : List ℕ) → q < 2 ^ 64 → ends unit r t ≡ true → ReadsDecimal unit (unit * q + r) (decimal q ++ t)
with_end unit q r t small ok =
    let gives_r = number_of (decimals t) * unit / 10 ^ length (decimals t) == r in
    let marked = list_all is_mark t && nat_le (length t) 4 in
    let few = nat_le (10 ^ length (decimals t)) unit in
    let formed = and_parts (if has_point t then is_number (decimals t) else not (is_filled t))
    (not (is_filled (whole_part t)) && (few && (gives_r && marked))) ok in
    let whole = and_parts (not (is_filled (whole_part t))) (few && (gives_r && marked)) formed.1 in
    let fine = and_parts few (gives_r && marked) whole.1 in
    let value = and_parts gives_r marked fine.1 in
    let marks = and_parts (list_all is_mark t) (nat_le (length t) 4) value.1 in
    let digits = decimal-digits q small in
    let no_point = all-weaker is_digit (λ b. not (is_point b)) (decimal q) (λ b is. grind (arith, nat_tests, is)) digits in
    let before = before-past is_point (decimal q) t no_point ∙ (λ j. decimal q ++ nothing (whole_part t) whole.0 j)
    ∙ append-nil (decimal q) in
    let after = after-past is_point (decimal q) t no_point in
    let is : number_of (decimals t) * unit / 10 ^ length (decimals t) ≡ r = grind (arith, nat_tests, value.0) in
    let four : length t ≤ 4 = grind (arith, nat_tests, marks.1) in
    let few_digits : length (decimal q) ≤ 20 = length-decimal-le 20 q (omega arith) (omega (arith, small)) small in
    let own = whole_text q small in
    record {
      form = rw (any-past is_point (decimal q) t no_point, before, after, digits)
          (is_formed q (has_point t) (is_number (decimals t)) t small formed.0);
      fine = rw after fine.0;
      value = rw (before, after, decimal-value q small, is);
      text = record {
        marks = all-append is_mark (decimal q) t own.marks marks.0;
        filled = filled-append (decimal q) t own.filled;
        short = omega (arith, length-append (decimal q) t, four, few_digits);
      };
    }

pub reads_decimal : (unit n : ℕ) → AllBelow (gives unit) unit → 1 ≤ unit → n / unit < 2 ^ 64 → ReadsDecimal unit n (decimal_text unit n)
reads_decimal unit n all some small =
    let low : n % unit < unit = omega (arith, some) in
    let whole : unit * (n / unit) + n % unit ≡ n = omega (arith, some) in
    subst (λ m. ReadsDecimal unit m (decimal_text unit n)) whole (with_end unit (n / unit) (n % unit) _ small
    (agree_below_at (gives unit) (λ k. true) unit (n % unit) all low))

-- times
pub time_reads : (t : ℕ) → t ≤ TIME_MAX → ReadsDecimal 100 t (time_text t)
time_reads t low = reads_decimal 100 t hundredths (omega arith) (omega (arith, low))

pub read_time-written : (t : ℕ) → t ≤ TIME_MAX → read_time (time_text t) ≡ Ok t
read_time-written t low =
    let text = time_text t in
    let reads = time_reads t low in
    let none = all-weaker is_mark (λ b. not (is_colon b)) text (λ b is. grind (arith, nat_tests, is)) reads.text.marks in
    ap (λ b. cond b (read_minutes (before_first is_colon text) (after_first is_colon text)) (read_seconds text))
    ((λ j. list_any is_colon (sym (append-nil text) j)) ∙ any-past is_colon text [] none)
    ∙ (λ j. cond (reads.form j) (ranged 0 TIME_MAX (reads.value j)) (Err Shape))
    ∙ ranged-within 0 TIME_MAX t (omega arith) low

-- cue numbers
pub cue_number_reads : (n : ℕ) → n ≤ CUE_MAX → ReadsDecimal CUE_UNIT n (cue_number_text n)
cue_number_reads n low = reads_decimal CUE_UNIT n steps (omega arith) (omega (arith, low))

pub read_cue_no-written : (n : ℕ) → 1 ≤ n → n ≤ CUE_MAX → read_cue_no desk_limits (cue_number_text n) ≡ Ok n
read_cue_no-written n some low =
    let reads = cue_number_reads n low in
    (λ j. cond (reads.form j && reads.fine j) (ranged 1 CUE_MAX (reads.value j)) (Err Shape)) ∙ ranged-within 1 CUE_MAX n some low

-- levels
abbrev reads_as : Result ℕ Bad → ℕ → Bool
reads_as (Ok m) n = m == n
reads_as (Err bad) n = false

reads_as-ok : (r : Result ℕ Bad) (n : ℕ) → reads_as r n ≡ true → r ≡ Ok n
reads_as-ok (Ok m) n is = let same : m ≡ n = grind (arith, nat_tests, is) in ap Ok same
reads_as-ok (Err bad) n is = cc

abbrev level_reads : ℕ → Bool
level_reads l = reads_as (read_level (level_text l)) l && list_all is_plain (level_text l)

every_level : AllBelow level_reads 256
every_level = refl

level_parts : (l : ℕ) → l ≤ 255 → (reads_as (read_level (level_text l)) l ≡ true) × (list_all is_plain (level_text l) ≡ true)
level_parts l low = and_parts (reads_as (read_level (level_text l)) l) (list_all is_plain (level_text l))
    (agree_below_at level_reads (λ k. true) 256 l every_level (omega (arith, low)))

pub read_level-written : (l : ℕ) → l ≤ 255 → read_level (level_text l) ≡ Ok l
read_level-written l low = reads_as-ok (read_level (level_text l)) l (level_parts l low).0

pub level_plain : (l : ℕ) → l ≤ 255 → list_all is_plain (level_text l) ≡ true
level_plain l low = (level_parts l low).1
