-- Each level in proportion to one for all of them, by words, whose lower bytes go out.
use Rattle.lx_mixer.proofs.Imports.{◌≡◌, ℕ, ◌+◌, ◌-◌, ◌*◌, ◌/◌, ◌<◌, ◌≤◌, List, ◌++◌, map, length, get_or, Fits, w8, zero}
use Rattle.lx_mixer.proofs.Imports.{suc, refl, ap, ◌∙◌, arith, inl, inr, cases_lt, get_or_append_left, get_or-append_right, Each1-get_or}
use Rattle.lx_mixer.proofs.Imports.{Each1-from_get_or, get_or_narrower, Each1, number_l, digits_l, pick_l, scaled, HasLanes, HasWords}
use Rattle.std.specs.List.{range_with_len}
use Rattle.std.proofs.lemmas.Nat.{mul-le}
use Rattle.std.proofs.lemmas.List.FromFn.{get_or-map-range_with_len, length-map-range_with_len}

length-digits : (p n x : ℕ) → length (digits_l p n x) ≡ n
length-digits p zero x = refl
length-digits p (suc n) x = ap suc (length-digits p n (x / p))

-- a level times 257 and the master, and once more, has its 255th part in the upper half
part_is : (x master : ℕ) → x ≤ 255 → master < 255 → x * (257 * master + 1) / 65536 ≡ scaled x master
part_is x master level below =
    let product : ℕ = x * master in
    let spread : x * (257 * master + 1) ≡ 257 * product + x = omega arith in
    let most : product ≤ x * 254 = mul-le x master x 254 (omega arith) (omega arith) in
    omega (arith, spread, most, level)

scaled_most : (x master : ℕ) → x ≤ 255 → master < 255 → scaled x master ≤ 255
scaled_most x master level below =
    let most : x * master ≤ 255 * 254 = mul-le x master 255 254 (omega arith) (omega arith) in
    omega (arith, most)

abbrev pub bytes_of : List ℕ → List ℕ
bytes_of words = digits_l 256 32 (number_l 65536 words)

-- every other one of the bytes of two rows of words
abbrev pub lower_bytes : List ℕ → List ℕ → List ℕ
lower_bytes low high = map (λ j. get_or (bytes_of low ++ bytes_of high) (2 * j) 0) (range_with_len 0 32)

-- sixteen neighbours of a row
abbrev pub half : List ℕ → ℕ → List ℕ
half levels from = pick_l 0 (levels ++ levels) (range_with_len from 16)

module _ (levels : List ℕ) (master : ℕ) (long : length levels ≡ 32) (fits : Each1 (Fits w8) levels) (below : master < 255) where
  level_fits : (k : ℕ) → k < 32 → get_or levels k 0 ≤ 255
  level_fits k less =
      let fit : Fits w8 (get_or levels k 0) = Each1-get_or (Fits w8) levels k 0 (omega arith) fits in
      omega (arith, fit.fits)

  half_is : (from j : ℕ) → from ≤ 16 → j < 16 → get_or (half levels from) j 0 ≡ get_or levels (from + j) 0
  half_is from j most less = get_or-map-range_with_len (λ k. get_or (levels ++ levels) k 0) from 16 j (from + j) 0 less refl
      ∙ get_or_append_left levels levels 0 (from + j) (omega arith)

  module _ (from : ℕ) (most : from ≤ 16) (words : List ℕ)
      (parts : HasWords words (λ k. get_or (half levels from) k 0 * (257 * master + 1) / 65536)) where
    word_is : (j : ℕ) → j < 16 → get_or words j 0 ≡ scaled (get_or levels (from + j) 0) master
    word_is j less = parts.each j less ∙ ap (λ n. n * (257 * master + 1) / 65536) (half_is from j most less)
        ∙ part_is (get_or levels (from + j) 0) master (level_fits (from + j) (omega arith)) below

    word_most : (j : ℕ) → j < 16 → get_or words j 0 ≤ 255
    word_most j less =
        let part = scaled_most (get_or levels (from + j) 0) master (level_fits (from + j) (omega arith)) below in
        omega (arith, part, word_is j less)

    words_below : Each1 (λ w. w < 65536) words
    words_below = Each1-from_get_or (λ w. w < 65536) words 0 (λ j less. omega (arith, word_most j (omega (arith, less, parts.long))))

    lower_byte : (j : ℕ) → j < 16 → get_or (bytes_of words) (2 * j) 0 ≡ scaled (get_or levels (from + j) 0) master
    lower_byte j less =
        let here : 2 * j ≡ 2 * j + 0 = omega arith in
        let fit = word_most j less in
        ap (λ n. get_or (bytes_of words) n 0) here
        ∙ get_or_narrower 65536 2 256 32 words j 0 refl words_below (omega arith) (omega arith)
        ∙ omega (arith, fit) ∙ word_is j less

  pub proportions : (low high : List ℕ) → HasWords low (λ k. get_or (half levels 0) k 0 * (257 * master + 1) / 65536)
      → HasWords high (λ k. get_or (half levels 16) k 0 * (257 * master + 1) / 65536)
      → HasLanes (lower_bytes low high) (λ k. scaled (get_or levels k 0) master)
  proportions low high of_low of_high = record {
    long = length-map-range_with_len (λ j. get_or (bytes_of low ++ bytes_of high) (2 * j) 0) 0 32;
    each = λ k less.
        let reach : length (bytes_of low) ≡ 32 = length-digits 256 32 (number_l 65536 low) in
        let none : 0 + k ≡ k = omega arith in
        get_or-map-range_with_len (λ j. get_or (bytes_of low ++ bytes_of high) (2 * j) 0) 0 32 k k 0 less none
        ∙ elim (cases_lt k 16) [
          | inl first ↦ get_or_append_left (bytes_of low) (bytes_of high) 0 (2 * k) (omega (arith, reach))
              ∙ lower_byte 0 (omega arith) low of_low k first ∙ ap (λ n. scaled (get_or levels n 0) master) none
          | inr later ↦
              let place : 2 * k - 32 ≡ 2 * (k - 16) = omega arith in
              let back : 16 + (k - 16) ≡ k = omega arith in
              get_or-append_right (bytes_of low) (bytes_of high) 32 (2 * k) 0 reach (omega arith)
              ∙ ap (λ n. get_or (bytes_of high) n 0) place
              ∙ lower_byte 16 (omega arith) high of_high (k - 16) (omega arith)
              ∙ ap (λ n. scaled (get_or levels n 0) master) back
        ];
  }
