-- Stacks in rows: what their newest fade gives.
use Rattle.lx_fade.proofs.Imports.{◌≡◌, ℕ, zero, suc, ◌+◌, ◌-◌, ◌*◌, ◌<◌, ◌≤◌, List, [], ◌∷◌, ◌++◌, drop, length}
use Rattle.lx_fade.proofs.Imports.{reverse, take, arith, get_or, refl, ◌∙◌, sym, inl, inr, common_steps, Fade, fade_at, stack_at, begun_by}
use Rattle.lx_fade.proofs.Imports.{stack_column, no_fade, stack_in}
use Rattle.std.proofs.Math.Nat.{mul-le-mul_right}
use Rattle.std.proofs.Math.Seq.{take-suc}
use Rattle.std.proofs.lemmas.Bool.{cases_eq}
use Rattle.std.proofs.lemmas.List.{get_or_default}
use Rattle.lx_spec.proofs.Comparisons.{lt_false, lt_true}

-- the newest fade of a column, and the others
pub column_step : (block : List Fade) (channels k left : ℕ) → 0 < left
    → stack_column block channels k left ≡ get_or block ((left - 1) * channels + k) no_fade ∷ stack_column block channels k (left - 1)
column_step block channels k zero some = absurd (omega arith)
column_step block channels k (suc j) some = let e : suc j - 1 ≡ j = omega arith in rw e refl

-- without the newest
pub drop-stack_column : (block : List Fade) (channels k n m : ℕ) → m ≤ n → drop (n - m) (stack_column block channels k n) ≡ stack_column block channels k m
drop-stack_column block channels k zero m le = let none : m ≡ 0 = omega arith in rw none refl
drop-stack_column block channels k (suc n) m le =
    elim (cases_eq m (suc n)) [
      | inl same ↦ let d : suc n - suc n ≡ 0 = omega arith in rw (same, d) refl
      | inr other ↦
          let d : suc n - m ≡ suc (n - m) = omega (arith, other) in rw d (drop-stack_column block channels k n m (omega (arith, other)))
    ]

-- the newest fade of a column has begun, or waits
module _ (block : List Fade) (channels k left : ℕ) (fade : Fade) (some : 0 < left)
    (is : fade ≡ get_or block ((left - 1) * channels + k) no_fade) where
  newest : stack_column block channels k left ≡ fade ∷ stack_column block channels k (left - 1)
  newest = rw is (column_step block channels k left some)

  pub newest_begun : (bottom m : ℕ) → fade.start ≤ m → stack_at bottom (stack_column block channels k left) m ≡ fade_at fade m
  newest_begun bottom m begun = rw newest (rw (lt_false m fade.start begun) refl)

  pub newest_waits : (bottom m : ℕ) → m < fade.start
      → stack_at bottom (stack_column block channels k left) m ≡ stack_at bottom (stack_column block channels k (left - 1)) m
  newest_waits bottom m waits = rw newest (rw (lt_true m fade.start waits) refl)

  pub newest_kept : (s : ℕ) → fade.start ≤ s → begun_by s (stack_column block channels k left) ≡ stack_column block channels k left
  newest_kept s begun = rw newest (rw (lt_false s fade.start begun) refl)

  pub newest_left : (s : ℕ) → s < fade.start
      → begun_by s (stack_column block channels k left) ≡ begun_by s (stack_column block channels k (left - 1))
  newest_left s waits = rw newest (rw (lt_true s fade.start waits) refl)

-- what is read in a column stands in the block
pub in_block : (channels k count left : ℕ) (block : List Fade) → k < channels → count * channels ≤ length block → left ≤ count → 0 < left
    → (left - 1) * channels + k < length block
in_block channels k count left block within reach most some =
    let end : (left - 1 + 1) * channels ≤ count * channels = mul-le-mul_right channels (omega arith) in omega (arith, end, reach, within)

pub read_is : (channels k count left : ℕ) (block : List Fade) (fade : Fade) → k < channels → count * channels ≤ length block → left ≤ count
    → 0 < left → fade ≡ get_or block ((left - 1) * channels + k) fade → fade ≡ get_or block ((left - 1) * channels + k) no_fade
read_is channels k count left block fade within reach most some is =
    is ∙ sym (get_or_default block ((left - 1) * channels + k) no_fade fade (in_block channels k count left block within reach most some))

-- the stack of a row's first entries
reverse-end : (xs : List Fade) (fade : Fade) → reverse (xs ++ fade ∷ []) ≡ fade ∷ reverse xs
reverse-end xs fade = grind (arith, common_steps)

pub column_whole : (row : List Fade) (used : ℕ) → used ≤ length row → stack_column row 1 0 used ≡ stack_in row used
column_whole row zero le = refl
column_whole row (suc n) le =
    let place : n * 1 + 0 ≡ n = omega arith in
    rw (place, column_whole row n (omega arith), take-suc row n no_fade (omega arith)) (sym (reverse-end (take n row) (get_or row n no_fade)))
