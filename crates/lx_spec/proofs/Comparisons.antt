-- What comparisons of numbers answer.
use Rattle.lx_spec.proofs.Imports.{◌≡◌, ℕ, ◌<◌, ◌≤◌, Bool, true, false, refl, arith, nat_le, nat_lt, ◌==◌, ◌&&◌, nat_tests}

-- what the tests say of numbers
pub lt_true : (a b : ℕ) → a < b → nat_lt a b ≡ true
lt_true a b h = grind (arith, nat_tests)

pub lt_false : (a b : ℕ) → b ≤ a → nat_lt a b ≡ false
lt_false a b h = grind (arith, nat_tests)

pub lt_from : (a b : ℕ) → nat_lt a b ≡ true → a < b
lt_from a b h = grind (arith, nat_tests)

pub le_true : (a b : ℕ) → a ≤ b → nat_le a b ≡ true
le_true a b h = grind (arith, nat_tests)

pub le_false : (a b : ℕ) → b < a → nat_le a b ≡ false
le_false a b h = grind (arith, nat_tests)

pub le_from : (a b : ℕ) → nat_lt a b ≡ false → b ≤ a
le_from a b h = grind (arith, nat_tests)

pub eq_true : (a b : ℕ) → a ≡ b → (a == b) ≡ true
eq_true a b h = grind (arith, nat_tests)

pub eq_other : (a b : ℕ) → (a ≡ b → ⊥) → (a == b) ≡ false
eq_other a b other = grind (arith, nat_tests)

pub eq_below : (a b : ℕ) → a < b → (a == b) ≡ false
eq_below a b h = grind (arith, nat_tests)

pub eq_above : (a b : ℕ) → b < a → (a == b) ≡ false
eq_above a b h = grind (arith, nat_tests)

pub eq_from : (a b : ℕ) → (a == b) ≡ true → b ≡ a
eq_from a b h = grind (arith, nat_tests)

pub above_or_equal : (a b : ℕ) → a ≤ b → (b ≡ a → ⊥) → a < b
above_or_equal a b le differ = grind (arith, nat_tests)

pub equal_below : (a n k : ℕ) → n < k → (a == n) ≡ true → nat_lt a k ≡ true
equal_below a n k less same = grind (arith, nat_tests)

pub equal_above : (a n k : ℕ) → k < n → (a == n) ≡ true → nat_lt k a ≡ true
equal_above a n k less same = grind (arith, nat_tests)

pub below_is_other : (a n k : ℕ) → nat_lt a k ≡ true → k ≤ n → (a == n) ≡ false
below_is_other a n k low le = grind (arith, nat_tests)

pub above_is_other : (a n k : ℕ) → nat_lt k a ≡ true → n ≤ k → (a == n) ≡ false
above_is_other a n k high le = grind (arith, nat_tests)

pub and_known : (a b : Bool) → (b ≡ true → a ≡ true) → (a && b) ≡ b
and_known true b known = refl
and_known false true known = known refl
and_known false false known = refl
