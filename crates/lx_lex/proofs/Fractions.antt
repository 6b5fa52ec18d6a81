-- Decimals in parts of a unit that is a power of ten.
use Rattle.lx_lex.proofs.Imports.{◌≡◌, ℕ, zero, suc, ◌+◌, ◌-◌, ◌*◌, ◌/◌, ◌^◌, ◌<◌, ◌≤◌, false, nat_le, add-one, sym, ap}
use Rattle.lx_lex.proofs.Imports.{◌∙◌, inl, inr, arith, pow-add, cases_lt, nat_tests, pow-succ', div-div-eq-div-mul, mul-div_cancel, mul-div-mul_right}
use Rattle.lx_lex.proofs.Imports.{div-eq_of_lt, mul-le-mul_right, le-div_iff_mul-le}
use Rattle.lx_lex.proofs.Imports.{refl}
use Rattle.lx_lex.specs.Decimals.{IsPowerOfTen}

pub hundred : IsPowerOfTen 100
hundred = (2, refl)

pub ten_pos : (i : ℕ) → 0 < 10 ^ i
ten_pos zero = omega arith
ten_pos (suc i) = omega (arith, ten_pos i, pow-succ' 10 i)

-- the next decimal's place is a whole number of parts
fine : (u m q n d : ℕ) → 0 < q → u ≡ m * (10 * q) → n * u / q + d * (u / (10 * q)) ≡ (10 * n + d) * u / (10 * q)
fine u m q n d h e =
    let a : u / (10 * q) ≡ m = rw e (mul-div_cancel m (omega arith)) in
    let b : n * u ≡ n * (10 * m) * q = rw e (omega arith) in
    let k : n * u / q ≡ n * (10 * m) = rw b (mul-div_cancel (n * (10 * m)) h) in
    let f : (10 * n + d) * u ≡ (10 * n + d) * m * (10 * q) = rw e (omega arith) in
    let g : (10 * n + d) * u / (10 * q) ≡ (10 * n + d) * m = rw f (mul-div_cancel ((10 * n + d) * m) (omega arith)) in
    rw (a, k, g) (omega arith)

-- it is less than a part
coarse : (u k q n d : ℕ) → 0 < u → d ≤ 9 → 0 < k → q ≡ k * u → n * u / q + d * (u / (10 * q)) ≡ (10 * n + d) * u / (10 * q)
coarse u k q n d h nine some e =
    let t : 10 * q ≡ 10 * k * u = rw e (omega arith) in
    let less : u < 10 * q = omega (arith, mul-le-mul_right u some) in
    let a : u / (10 * q) ≡ 0 = div-eq_of_lt less in
    let b : n * u / q ≡ n / k = rw e (mul-div-mul_right n k h) in
    let f : (10 * n + d) * u / (10 * q) ≡ (10 * n + d) / (10 * k) = rw t (mul-div-mul_right (10 * n + d) (10 * k) h) in
    let g : (10 * n + d) / 10 ≡ n = omega arith in
    let j : (10 * n + d) / (10 * k) ≡ n / k = sym (div-div-eq-div-mul (10 * n + d) 10 k) ∙ ap (λ x. x / k) g in
    rw (a, b, f, j) (omega arith)

ten-more : (i : ℕ) → 10 ^ (i + 1) ≡ 10 * 10 ^ i
ten-more i = ap (λ k. 10 ^ k) (add-one i) ∙ pow-succ' 10 i

ten-split : (i j k : ℕ) → i ≡ j + k → 10 ^ i ≡ 10 ^ j * 10 ^ k
ten-split i j k e = rw e (pow-add 10 j k)

pub step-more : (u i : ℕ) → u / 10 ^ i / 10 ≡ u / 10 ^ (i + 1)
step-more u i = div-div-eq-div-mul u (10 ^ i) 10 ∙ ap (λ q. u / q) (omega (arith, ten-more i))

-- one decimal more
pub fraction-more : (u p i n d : ℕ) → u ≡ 10 ^ p → d ≤ 9 → n * u / 10 ^ i + d * (u / 10 ^ i / 10) ≡ (10 * n + d) * u / 10 ^ (i + 1)
fraction-more u p i n d e nine = rw (step-more u i, ten-more i) (elim (cases_lt i p) [
  | inl lt ↦ fine u (10 ^ (p - suc i)) (10 ^ i) n d (ten_pos i)
      (e ∙ ten-split p (p - suc i) (suc i) (omega arith) ∙ ap (λ x. 10 ^ (p - suc i) * x) (pow-succ' 10 i))
  | inr le ↦ coarse u (10 ^ (i - p)) (10 ^ i) n d (rw e (ten_pos p)) nine (ten_pos (i - p)) (rw e (ten-split i (i - p) p (omega arith)))
])

-- decimals of which no place is a part are finer than the parts
pub finer : (u i : ℕ) → u / 10 ^ i ≡ 0 → nat_le (10 ^ i) u ≡ false
finer u i e = elim (cases_lt u (10 ^ i)) [
  | inl lt ↦ grind (arith, nat_tests)
  | inr le ↦ absurd (omega (arith, e, (le-div_iff_mul-le {x = 1} {y = u} (ten_pos i)).1 (omega arith)))
]
