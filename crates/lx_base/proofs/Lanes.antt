-- Rows of levels by 32 lanes at a time.
use Rattle.std.proofs.Common.{◌≡◌, ◌≢◌, ℕ, ◌+◌, ◌-◌, ◌*◌, ◌/◌, ◌%◌, ◌^◌, ◌<◌, ◌≤◌, Bool, true, false, not, cond, eqb, List, [], ◌∷◌, map}
use Rattle.std.proofs.Common.{length, get_or, replicate, w8, Fits, refl, sym, ap, ◌∙◌, arith}
use Rattle.std.specs.List.{prefix_len}
use Rattle.std.proofs.lemmas.Bool.{not-true, not-false, eq-eqb, eqb-true, false≢true}
use Rattle.std.proofs.Math.Nat.{mul-le-mul}
use Rattle.std.proofs.Math.ListN.{get_or-map}
use Rattle.std.proofs.lemmas.List.{length-map}
use Rattle.std.proofs.lemmas.Simd.{Each1-get_or, get_or-replicate, length-zip2, get_or-zip2, length-chunk, get_or-chunk}
use Rattle.std.proofs.lemmas.Simd.{get_or-put_chunk_at, get_or-put_chunk_below, tops_compared, mask_l-mod, leading_from_mask_l}
use Rattle.std.proofs.lemmas.Simd.{trailing_mask_l}
use Rattle.std.proofs.lemmas.List.Sums.{prefix_len-le-length, prefix_len_passes, prefix_len_stops}
use lib.Count.{count_trailing_zeros}
use lib.Lanes.{Each1, Each2, chunk, put_chunk, zip2, mask_l, top}
use Rattle.lx_base.specs.Numbers.{scaled}
use Rattle.lx_base.specs.Rows.{HasLanes, IsRun}

abbrev pub apart : ℕ → ℕ → Bool
apart a b = not (eqb a b)

same : (a b : ℕ) → apart a b ≡ false → a ≡ b
same a b is = eqb-true a b (not-false (eqb a b) is)

other : (a b : ℕ) → apart a b ≡ true → a ≢ b
other a b is = λ e. false≢true (sym (not-true (eqb a b) is) ∙ eq-eqb a b e)

-- which lanes differ, from a place on
abbrev pub changes : List ℕ → List ℕ → ℕ → List Bool
changes old new at = zip2 apart (chunk at 32 old) (chunk at 32 new)

map_self : (bits : List Bool) → map (λ b. b) bits ≡ bits
map_self [] = refl
map_self (b ∷ bits) = ap (λ rest. b ∷ rest) (map_self bits)

module _ (old new : List ℕ) (at : ℕ) (room : at + 32 ≤ length old) (room' : at + 32 ≤ length new) where
  long : length (changes old new at) ≡ 32
  long = let one = length-chunk at 32 old room in let two =
      length-chunk at 32 new room' in length-zip2 apart (chunk at 32 old) (chunk at 32 new) (one ∙ sym two) ∙ one

  lane : (k : ℕ) → k < 32 → get_or (changes old new at) k false ≡ apart (get_or old (at + k) 0) (get_or new (at + k) 0)
  lane k less =
      let one = length-chunk at 32 old room in
      let two = length-chunk at 32 new room' in
      get_or-zip2 apart (chunk at 32 old) (chunk at 32 new) k 0 0 false (omega arith) (omega arith)
      ∙ (λ i. apart (get_or-chunk at 32 old k 0 less i) (get_or-chunk at 32 new k 0 less i))

  pub mask_is : mask_l (map (top 7) (zip2 (λ a b. cond (apart a b) 255 0) (chunk at 32 old) (chunk at 32 new))) % 2 ^ 64
      ≡ mask_l (map (λ b. b) (changes old new at))
  mask_is = ap (λ bits. mask_l bits % 2 ^ 64) (tops_compared w8 apart (chunk at 32 old) (chunk at 32 new))
      ∙ mask_l-mod (changes old new at) 64 (omega (arith, long)) ∙ ap mask_l (sym (map_self (changes old new at)))

  run_is : (run : ℕ) → run ≡ prefix_len (λ b. not b) (changes old new at) → IsRun old new at 32 run
  run_is run is = record {
    most = omega (arith, is, long, prefix_len-le-length (λ b. not b) (changes old new at));
    agree = λ k least less.
        let back : at + (k - at) ≡ k = omega arith in
        let within : k - at < 32 = omega (arith, is, long, prefix_len-le-length (λ b. not b) (changes old new at)) in
        let passes = prefix_len_passes (λ b. not b) (changes old new at) (k - at) false (omega (arith, is)) in
        ap (λ n. get_or old n 0) (sym back) ∙ same _ _ (sym (lane (k - at) within) ∙ not-true _ passes) ∙ ap (λ n. get_or new n 0) back;
    stops = λ less.
        let stop = prefix_len_stops (λ b. not b) (changes old new at) false (omega (arith, is, long)) in
        other _ _ (sym (lane run less) ∙ ap (λ n. get_or (changes old new at) n false) is ∙ not-false _ stop);
  }

  pub run_whole : mask_l (map (λ b. b) (changes old new at)) ≡ 0 → IsRun old new at 32 32
  run_whole none = run_is 32 (sym (leading_from_mask_l (λ b. b) (changes old new at) none ∙ long))

  pub run_first : 0 < mask_l (map (λ b. b) (changes old new at))
      → IsRun old new at 32 (count_trailing_zeros 64 (mask_l (map (λ b. b) (changes old new at))))
  run_first some = run_is _ (trailing_mask_l (λ b. b) 64 (changes old new at) (omega (arith, long)) some)

-- lanes stored from a place on
pub stored_below : (xs : List ℕ) (values : List ℕ) (at : ℕ) (k : ℕ) → k < at → get_or (put_chunk at xs values) k 0 ≡ get_or xs k 0
stored_below xs values at k less = get_or-put_chunk_below at xs values k 0 less

pub stored_at : (xs values : List ℕ) (value : ℕ → ℕ) (at k : ℕ) → at + 32 ≤ length xs → HasLanes values value → at ≤ k → k < at + 32
    → get_or (put_chunk at xs values) k 0 ≡ value (k - at)
stored_at xs values value at k room lanes least less =
    let back : at + (k - at) ≡ k = omega arith in
    ap (λ n. get_or (put_chunk at xs values) n 0) (sym back)
    ∙ get_or-put_chunk_at at xs values (k - at) 0 (omega (arith, lanes.long)) (omega (arith, lanes.long))
    ∙ lanes.each (k - at) (omega arith)

-- and loaded from it
pub loaded : (xs : List ℕ) (at k : ℕ) → at ≤ k → k < at + 32 → get_or (chunk at 32 xs) (k - at) 0 ≡ get_or xs k 0
loaded xs at k least less =
    let back : at + (k - at) ≡ k = omega arith in
    get_or-chunk at 32 xs (k - at) 0 (omega arith) ∙ ap (λ n. get_or xs n 0) back

fits_product : (a b : ℕ) → Fits w8 a → Fits w8 b → a * b ≤ 65025
fits_product a b fits fits' = mul-le-mul {n₁ = a} {m₁ = b} {n₂ = 255} {m₂ = 255} (omega (arith, fits.fits)) (omega (arith, fits'.fits))

whole_product : (a b : ℕ) → Fits w8 a → Fits w8 b → a * b % 65536 / 255 ≡ scaled a b
whole_product a b fits fits' =
    let most : a * b ≤ 65025 = fits_product a b fits fits' in
    let whole : a * b % 65536 ≡ a * b = omega (arith, most) in
    ap (λ n. n / 255) whole

-- the quotients of levels fit a level
pub quotients_fit : (xs ys : List ℕ) → Each1 (Fits w8) xs → Each1 (Fits w8) ys
    → Each2 (λ a b. Fits w8 (a * b % 65536 / 255)) (map (λ x. x) xs) (map (λ x. x) ys)
quotients_fit [] ys fits fits' = tt
quotients_fit (x ∷ xs) [] fits fits' = tt
quotients_fit (x ∷ xs) (y ∷ ys) fits fits' =
    let most : x * y ≤ 65025 = fits_product x y fits.0 fits'.0 in
    let quotient : x * y % 65536 / 255 ≡ x * y / 255 = whole_product x y fits.0 fits'.0 in
    (record { fits = omega (arith, most, quotient) }, quotients_fit xs ys fits.1 fits'.1)

-- and are their products in proportion to full
pub scaled_lanes : (xs ys : List ℕ) → length xs ≡ 32 → length ys ≡ 32 → Each1 (Fits w8) xs → Each1 (Fits w8) ys
    → HasLanes (map (λ x. x) (zip2 (λ a b. a / b) (zip2 (λ a b. a * b % 65536) (map (λ x. x) xs) (map (λ x. x) ys)) (replicate 32 255)))
    (λ k. scaled (get_or xs k 0) (get_or ys k 0))
scaled_lanes xs ys long long' fits fits' =
    let products : List ℕ = zip2 (λ a b. a * b % 65536) (map (λ x. x) xs) (map (λ x. x) ys) in
    let wide = length-map xs (λ (x : ℕ). x) in
    let wide' = length-map ys (λ (x : ℕ). x) in
    let reach : length products ≡ 32 = length-zip2 (λ a b. a * b % 65536) (map (λ x. x) xs) (map (λ x. x) ys) (omega arith) ∙ wide ∙ long in
    record {
      long = length-map (zip2 (λ a b. a / b) products (replicate 32 255)) (λ (x : ℕ). x)
          ∙ length-zip2 (λ a b. a / b) products (replicate 32 255) reach ∙ reach;
      each = λ k less.
          get_or-map (λ x. x) (zip2 (λ a b. a / b) products (replicate 32 255)) k 0
          ∙ get_or-zip2 (λ a b. a / b) products (replicate 32 255) k 0 0 0 (omega arith) less
          ∙ (λ i. (get_or-zip2 (λ a b. a * b % 65536) (map (λ x. x) xs) (map (λ x. x) ys) k 0 0 0 (omega arith) (omega arith) i) /
          (get_or-replicate 32 k 255 0 less i))
          ∙ (λ i. (get_or-map (λ x. x) xs k 0 i) * (get_or-map (λ x. x) ys k 0 i) % 65536 / 255)
          ∙ whole_product (get_or xs k 0) (get_or ys k 0) (Each1-get_or (Fits w8) xs k 0 (omega arith) fits)
          (Each1-get_or (Fits w8) ys k 0 (omega arith) fits');
    }
