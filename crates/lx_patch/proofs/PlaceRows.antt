-- Places that follow one another.
use Rattle.lx_patch.proofs.Imports.{◌≡◌, ℕ, ◌+◌, ◌-◌, ◌%◌, ◌^◌, ◌<◌, ◌≤◌, Bool, false, cond, eqb, not, List, map, length, get_or, replicate, w16, sym}
use Rattle.lx_patch.proofs.Imports.{ap, ◌∙◌, arith, range_with_len, not-true, not-false, eqb-true, get_or-replicate, length-replicate, length-zip2}
use Rattle.lx_patch.proofs.Imports.{get_or-zip2, length-chunk, get_or-chunk, tops_compared, mask_l-mod, leading_from_mask_l, HasLanes, apart}
use Rattle.lx_patch.proofs.Imports.{AreInARow}
use Rattle.std.proofs.lemmas.List.{map-id}
use Rattle.std.proofs.lemmas.List.FromFn.{get_or-range_with_len}
use Rattle.std.proofs.lemmas.List.Sums.{prefix_len_passes}
use lib.Lanes.{chunk, zip2, mask_l, top}

abbrev pub steps : List ℕ
steps = range_with_len 0 32

abbrev pub row_from : ℕ → List ℕ
row_from first = zip2 (λ a b. (a + b) % 65536) (replicate 32 first) steps

module _ (places : List ℕ) (at first : ℕ) (room : at + 32 ≤ length places) (is : get_or places at 0 ≡ first) (low : first ≤ 65504) where
  abbrev bits : List Bool
  bits = zip2 apart (chunk at 32 places) (row_from first)

  reach : length (row_from first) ≡ 32
  reach = length-zip2 (λ a b. (a + b) % 65536) (replicate 32 first) steps (length-replicate 32 first) ∙ length-replicate 32 first

  long : length bits ≡ 32
  long = length-zip2 apart (chunk at 32 places) (row_from first) (length-chunk at 32 places room ∙ sym reach)
      ∙ length-chunk at 32 places room

  entry : (k : ℕ) → k < 32 → get_or (row_from first) k 0 ≡ first + k
  entry k less =
      get_or-zip2 (λ a b. (a + b) % 65536) (replicate 32 first) steps k 0 0 0 (omega (arith, length-replicate 32 first)) less
      ∙ (λ i. ((get_or-replicate 32 k first 0 less i) + (get_or-range_with_len 0 32 k 0 less i)) % 65536)
      ∙ omega (arith, low)

  lane : (k : ℕ) → k < 32 → get_or bits k false ≡ apart (get_or places (at + k) 0) (first + k)
  lane k less =
      get_or-zip2 apart (chunk at 32 places) (row_from first) k 0 0 false (omega (arith, length-chunk at 32 places room))
      (omega (arith, reach))
      ∙ (λ i. apart (get_or-chunk at 32 places k 0 less i) (entry k less i))

  none : mask_l (map (top 15) (zip2 (λ a b. cond (apart a b) 65535 0) (chunk at 32 places) (row_from first))) % 2 ^ 64 ≡ 0
      → mask_l (map (λ b. b) bits) ≡ 0
  none zero_mask =
      ap mask_l (map-id bits) ∙ sym (mask_l-mod bits 64 (omega (arith, long)))
      ∙ sym (ap (λ bits. mask_l bits % 2 ^ 64) (tops_compared w16 apart (chunk at 32 places) (row_from first))) ∙ zero_mask

  pub row_is : mask_l (map (top 15) (zip2 (λ a b. cond (apart a b) 65535 0) (chunk at 32 places) (row_from first))) % 2 ^ 64 ≡ 0
      → AreInARow places at (at + 32)
  row_is zero_mask = λ k least less.
      let back : at + (k - at) ≡ k = omega arith in
      let within : k - at < 32 = omega arith in
      let all = leading_from_mask_l (λ b. b) bits (none zero_mask) in
      let passes = prefix_len_passes (λ b. not b) bits (k - at) false (omega (arith, all, long)) in
      let same : get_or places (at + (k - at)) 0 ≡ first + (k - at) =
      eqb-true _ _ (not-false (eqb _ _) (sym (lane (k - at) within) ∙ not-true _ passes)) in
      ap (λ n. get_or places n 0) (sym back) ∙ same ∙ ap (λ n. n + (k - at)) (sym is)

-- what was loaded at once
lanes_of : (xs lanes : List ℕ) (from : ℕ) (f : ℕ → ℕ) → from + 32 ≤ length xs → lanes ≡ chunk from 32 xs
    → ((k : ℕ) → k < 32 → get_or xs (from + k) 0 ≡ f k) → HasLanes lanes f
lanes_of xs lanes from f room is each = record {
  long = ap length is ∙ length-chunk from 32 xs room;
  each = λ k less. ap (λ ys. get_or ys k 0) is ∙ get_or-chunk from 32 xs k 0 less ∙ each k less;
}

module _ (places outs lanes : List ℕ) (at : ℕ) where
  -- outputs that were loaded at once
  pub run_lanes : get_or places at 0 + 32 ≤ length outs → AreInARow places at (at + 32) → lanes ≡ chunk (get_or places at 0) 32 outs
      → HasLanes lanes (λ k. get_or outs (get_or places (at + k) 0) 0)
  run_lanes room row is = lanes_of outs lanes (get_or places at 0) _ room is (λ k less.
      let steps : at + k - at ≡ k = omega arith in
      ap (λ n. get_or outs (get_or places at 0 + n) 0) (sym steps) ∙ ap (λ n. get_or outs n 0) (sym (row (at + k) (omega arith) (omega arith))))

  -- and one by one
  pub own_lanes : (gathered : List ℕ) → length gathered ≡ 32
      → ((k : ℕ) → k < 32 → get_or gathered k 0 ≡ get_or outs (get_or places (at + k) 0) 0) → lanes ≡ chunk 0 32 gathered
      → HasLanes lanes (λ k. get_or outs (get_or places (at + k) 0) 0)
  own_lanes gathered whole lane is = lanes_of gathered lanes 0 _ (omega (arith, whole)) is (λ k less.
      let start : 0 + k ≡ k = omega arith in ap (λ n. get_or gathered n 0) start ∙ lane k less)
