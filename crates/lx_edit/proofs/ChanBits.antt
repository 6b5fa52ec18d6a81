-- Channels as bits.
use Rattle.lx_edit.proofs.Imports.{◌≡◌, ◌≢◌, ℕ, zero, suc, ◌+◌, ◌-◌, ◌*◌, ◌/◌, ◌%◌, ◌^◌, ◌<◌, ◌≤◌, true}
use Rattle.lx_edit.proofs.Imports.{false, List, length, get_or, set, replicate, refl, ◌∙◌, sym, ap, subst, inl, inr, arith, w64, ◌==◌, ◌||◌}
use Rattle.lx_edit.proofs.Imports.{◌&&◌, bit_or, slice_index, bit_at, cases_eq, false≢true, CHANNELS, nat_tests, get_or-replicate, get_or-set_same}
use Rattle.lx_edit.proofs.Imports.{get_or-set_other, bit_at-zero, bit_at_ones, bit_at_set_same, bit_at_set_other, ChanSet, is_chan, eq_other, eq_true}
use Rattle.lx_edit.proofs.Imports.{bit_at_above, bit_at-trailing_zeros, cases_Bool, cases_lt, shr-shr, shr_le, trailing_zeros}
use Rattle.std.proofs.Math.Bool.{and-false}
use Rattle.lx_edit.specs.ChanSet.{has_chan}

pub is_chan-in : (c : ℕ) → 1 ≤ c → c ≤ CHANNELS → is_chan c ≡ true
is_chan-in c least most = grind (arith, nat_tests)

least_of : (c : ℕ) → is_chan c ≡ true → 1 ≤ c
least_of c is = grind (arith, nat_tests)

most_of : (c : ℕ) → is_chan c ≡ true → c ≤ CHANNELS
most_of c is = grind (arith, nat_tests)

pub has_chan-at : (chans : ChanSet) (c : ℕ) → is_chan c ≡ true
    → has_chan chans c ≡ (bit_at (slice_index chans.words ((c - 1) / 64)) ((c - 1) % 64) == 1)
unfolding has_chan
has_chan-at chans c is = ap (λ b. b && (bit_at (slice_index chans.words ((c - 1) / 64)) ((c - 1) % 64) == 1)) is

pub has_chan-none : (chans : ChanSet) (c : ℕ) → is_chan c ≡ false → has_chan chans c ≡ false
unfolding has_chan
has_chan-none chans c is = ap (λ b. b && (bit_at (slice_index chans.words ((c - 1) / 64)) ((c - 1) % 64) == 1)) is

zeros : (n i : ℕ) → slice_index (replicate n 0) i ≡ 0
zeros zero i = refl
zeros (suc n) zero = refl
zeros (suc n) (suc i) = zeros n i

pub has_chan-empty : (n x : ℕ) → has_chan (record { words = replicate n 0 }) x ≡ false
unfolding has_chan
has_chan-empty n x = ap (λ w. is_chan x && (bit_at w ((x - 1) % 64) == 1)) (zeros n ((x - 1) / 64))
    ∙ ap (λ b. is_chan x && (b == 1)) (bit_at-zero ((x - 1) % 64)) ∙ and-false (is_chan x)

in_word : (k : ℕ) → k % 64 < 64
in_word k = omega arith

-- in a set whose words are all ones is each channel
pub has_chan-full : (n x : ℕ) → 1 ≤ x → x ≤ CHANNELS → CHANNELS ≤ 64 * n
    → has_chan (record { words = replicate n 18446744073709551615 }) x ≡ true
has_chan-full n x least most room =
    let word : (x - 1) / 64 < n = omega (arith, least, most, room) in
    has_chan-at (record { words = replicate n 18446744073709551615 }) x (is_chan-in x least most)
    ∙ ap (λ w. bit_at w ((x - 1) % 64) == 1) (get_or-replicate n ((x - 1) / 64) 18446744073709551615 0 word)
    ∙ ap (λ b. b == 1) (bit_at_ones 64 ((x - 1) % 64) (in_word (x - 1)))

-- what isn't in a set that has each channel is in none
pub no_channel : (full other : ChanSet) → ((x : ℕ) → 1 ≤ x → x ≤ CHANNELS → has_chan full x ≡ true) → (c : ℕ) → has_chan full c ≡ false
    → has_chan other c ≡ false
no_channel full other each c out = elim (cases_Bool (is_chan c)) [
  | inl is ↦ absurd (false≢true (sym out ∙ each c (least_of c is) (most_of c is)))
  | inr is ↦ has_chan-none other c is
]

abbrev pub with_chan : List ℕ → ℕ → List ℕ
with_chan words c = set words ((c - 1) / 64) (bit_or (get_or words ((c - 1) / 64) 0) (1 * 2 ^ ((c - 1) % 64) % 18446744073709551616))

set_here : (words : List ℕ) (c : ℕ) → (c - 1) / 64 < length words → bit_at (get_or (with_chan words c) ((c - 1) / 64) 0) ((c - 1) % 64) ≡ 1
set_here words c within = ap (λ w. bit_at w ((c - 1) % 64)) (get_or-set_same words ((c - 1) / 64) _ 0 within)
    ∙ bit_at_set_same w64 (get_or words ((c - 1) / 64) 0) ((c - 1) % 64) (in_word (c - 1))

bit_kept : (words : List ℕ) (c x : ℕ) → 1 ≤ c → 1 ≤ x → (c - 1) / 64 < length words → (x ≡ c → ⊥)
    → bit_at (get_or (with_chan words c) ((x - 1) / 64) 0) ((x - 1) % 64) ≡ bit_at (get_or words ((x - 1) / 64) 0) ((x - 1) % 64)
bit_kept words c x least_c least_x within differ = elim (cases_eq ((x - 1) / 64) ((c - 1) / 64)) [
  | inl word ↦ rw (word, get_or-set_same words ((c - 1) / 64) _ 0 within) (bit_at_set_other w64 (get_or words ((c - 1) / 64) 0) ((c - 1) % 64)
      (in_word (c - 1)) ((x - 1) % 64) (λ bit. differ (omega (arith, least_x, least_c, word, bit))))
  | inr apart ↦ ap (λ w. bit_at w ((x - 1) % 64)) (get_or-set_other words ((c - 1) / 64) ((x - 1) / 64) _ 0 apart)
]

differs_from : (x c : ℕ) → is_chan x ≡ false → is_chan c ≡ true → x ≡ c → ⊥
differs_from x c none here is = false≢true (sym none ∙ ap is_chan is ∙ here)

-- a set with one channel more
pub has_chan-with : (words : List ℕ) (c x : ℕ) → is_chan c ≡ true → (c - 1) / 64 < length words
    → has_chan (record { words = with_chan words c }) x ≡ (x == c || has_chan (record { words = words }) x)
has_chan-with words c x here within = elim (cases_Bool (is_chan x)) [
  | inl is ↦ elim (cases_eq x c) [
    | inl at ↦ subst (λ k. has_chan (record { words = with_chan words c }) k ≡ (k == c || has_chan (record { words = words }) k)) (sym at)
        (has_chan-at (record { words = with_chan words c }) c here ∙ ap (λ b. b == 1) (set_here words c within)
        ∙ sym (ap (λ b. b || has_chan (record { words = words }) c) (eq_true c c refl)))
    | inr differ ↦
        has_chan-at (record { words = with_chan words c }) x is
        ∙ ap (λ b. b == 1) (bit_kept words c x (least_of c here) (least_of x is) within differ)
        ∙ sym (ap (λ b. b || has_chan (record { words = words }) x) (eq_other x c differ) ∙ has_chan-at (record { words = words }) x is)
  ]
  | inr none ↦ has_chan-none (record { words = with_chan words c }) x none
      ∙ sym (ap (λ b. b || has_chan (record { words = words }) x) (eq_other x c (differs_from x c none here))
      ∙ has_chan-none (record { words = words }) x none)
]

-- the word of a place, shifted down to it
abbrev pub rest_of : ChanSet → ℕ → ℕ
rest_of chans place = slice_index chans.words (place / 64) / 2 ^ (place % 64)

in_rest : (chans : ChanSet) (place i x : ℕ) → place % 64 + i < 64 → x ≡ place + i + 1
    → has_chan chans x ≡ (is_chan x && (bit_at (rest_of chans place) i == 1))
unfolding has_chan
in_rest chans place i x within at =
    let word : (x - 1) / 64 ≡ place / 64 = omega (arith, within, at) in
    let bit : (x - 1) % 64 ≡ place % 64 + i = omega (arith, within, at) in
    rw (word, bit) (ap (λ n. is_chan x && (n % 2 == 1)) (sym (shr-shr (slice_index chans.words (place / 64)) (place % 64) i)))

-- a channel of the word without a bit isn't in the set
pub has_chan-clear : (chans : ChanSet) (place x : ℕ) → place < x → x ≤ place / 64 * 64 + 64 → bit_at (rest_of chans place) (x - 1 - place) ≡ 0
    → has_chan chans x ≡ false
has_chan-clear chans place x from to clear = in_rest chans place (x - 1 - place) x (omega (arith, from, to)) (omega (arith, from))
    ∙ ap (λ n. is_chan x && (n == 1)) clear ∙ and-false (is_chan x)

-- the next channel of the word
pub record IsNext (chans : ChanSet) (place c : ℕ) : Type 0 where
  pub most : c ≤ CHANNELS
  pub has : has_chan chans c ≡ true
  pub first : (x : ℕ) → place < x → x < c → has_chan chans x ≡ false

-- it is that of the lowest bit
pub lowest : (chans : ChanSet) (place : ℕ) → place < CHANNELS → slice_index chans.words (place / 64) < 2 ^ 64 → rest_of chans place ≢ 0
    → IsNext chans place (place + trailing_zeros w64 (rest_of chans place) + 1)
lowest chans place room fits some =
    let w = slice_index chans.words (place / 64) in
    let s = place % 64 in
    let t = trailing_zeros w64 (w / 2 ^ s) in
    let bits = bit_at-trailing_zeros w64 (w / 2 ^ s) (omega (arith, some)) (omega (arith, fits, shr_le w s)) in
    let within : s + t < 64 = elim (cases_lt (s + t) 64) [
      | inl less ↦ less
      | inr past ↦ omega (arith, (sym (bit_at_above w 64 (s + t) fits past) ∙ sym (ap (λ n. n % 2) (shr-shr w s t)) ∙ bits.1))
    ] in
    let most : place + t + 1 ≤ CHANNELS = omega (arith, within, room) in
    record {
      most = most;
      has = in_rest chans place t (place + t + 1) within refl ∙ rw (is_chan-in (place + t + 1) (omega arith) most, bits.1) refl;
      first = λ x from to. has_chan-clear chans place x from (omega (arith, within, to)) (bits.2 (x - 1 - place) (omega (arith, from, to)));
    }
