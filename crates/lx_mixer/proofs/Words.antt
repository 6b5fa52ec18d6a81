-- The upper halves of levels' products.
use Rattle.lx_mixer.proofs.Imports.{◌≡◌, ℕ, ◌*◌, ◌/◌, ◌%◌, ◌^◌, ◌<◌, ◌≤◌, List, [], ◌∷◌, map, length, get_or, replicate}
use Rattle.lx_mixer.proofs.Imports.{Fits, w8, w16, ap, ◌∙◌, arith, get_or-map, length-map, Each1-get_or, get_or-replicate, length-zip2, get_or-zip2}
use Rattle.lx_mixer.proofs.Imports.{Each1, zip2, HasWords}
use Rattle.std.proofs.Math.Nat.{mul-le-mul}

product_fits : (a by : ℕ) → Fits w8 a → by < 65536 → a * by ≤ 16711425
product_fits a by fits less = mul-le-mul {n₁ = a} {m₁ = by} {n₂ = 255} {m₂ = 65535} (omega (arith, fits.fits)) (omega arith)

whole_product : (a by : ℕ) → Fits w8 a → by < 65536 → a * by % 4294967296 / 65536 ≡ a * by / 65536
whole_product a by fits less =
    let most : a * by ≤ 16711425 = product_fits a by fits less in
    let whole : a * by % 4294967296 ≡ a * by = omega (arith, most) in
    ap (λ n. n / 65536) whole

-- the upper halves of products fit a word
pub halves_fit : (by : ℕ) → by < 65536 → (levels : List ℕ) → Each1 (Fits w8) levels
    → Each1 (λ a. Fits w16 (a * by % 4294967296 / 65536)) (map (λ x. x) levels)
halves_fit by less [] fits = tt
halves_fit by less (a ∷ levels) fits =
    let most : a * by ≤ 16711425 = product_fits a by fits.0 less in
    let half : a * by % 4294967296 / 65536 ≡ a * by / 65536 = whole_product a by fits.0 less in
    (record { fits = omega (arith, most, half) }, halves_fit by less levels fits.1)

-- the upper halves of the products of sixteen levels
pub upper_halves : (by : ℕ) → by < 65536 → (levels : List ℕ) → length levels ≡ 16 → Each1 (Fits w8) levels
    → HasWords (map (λ x. x) (zip2 (λ a b. a / 2 ^ b) (zip2 (λ a b. a * b % 4294967296) (map (λ x. x) levels) (replicate 16 by))
    (replicate 16 16)))
    (λ k. get_or levels k 0 * by / 65536)
upper_halves by less levels long fits =
    let products : List ℕ = zip2 (λ a b. a * b % 4294967296) (map (λ x. x) levels) (replicate 16 by) in
    let wide = length-map levels (λ (x : ℕ). x) in
    let reach : length products ≡ 16 = length-zip2 (λ a b. a * b % 4294967296) (map (λ x. x) levels) (replicate 16 by) (wide ∙ long)
    ∙ wide ∙ long in
    record {
      long = length-map (zip2 (λ a b. a / 2 ^ b) products (replicate 16 16)) (λ (x : ℕ). x)
          ∙ length-zip2 (λ a b. a / 2 ^ b) products (replicate 16 16) reach ∙ reach;
      each = λ k within.
          get_or-map (λ x. x) (zip2 (λ a b. a / 2 ^ b) products (replicate 16 16)) k 0
          ∙ get_or-zip2 (λ a b. a / 2 ^ b) products (replicate 16 16) k 0 0 0 (omega arith) within
          ∙ (λ i. (get_or-zip2 (λ a b. a * b % 4294967296) (map (λ x. x) levels) (replicate 16 by) k 0 0 0 (omega arith) within i) /
          2 ^ (get_or-replicate 16 k 16 0 within i))
          ∙ (λ i. (get_or-map (λ x. x) levels k 0 i) * (get_or-replicate 16 k by 0 within i) % 4294967296 / 65536)
          ∙ whole_product (get_or levels k 0) by (Each1-get_or (Fits w8) levels k 0 (omega arith) fits) less;
    }
