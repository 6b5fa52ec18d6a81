-- How many of 32 bytes stand before the first LF among them.
use Rattle.lx_lex.proofs.Imports.{◌≡◌, ℕ, ◌+◌, ◌%◌, ◌^◌, ◌≢◌, ◌<◌, ◌≤◌, cond, eqb, not, List, map, length, replicate, w8, ap, sym}
use Rattle.lx_lex.proofs.Imports.{◌∙◌, arith, prefix_len, false≢true, count_trailing_zeros, Nowhere, Passes, is_byte}
use Rattle.std.proofs.lemmas.Simd.{bitmask_splat, length-chunk, none_from_empty_mask, run_in_chunk_fails, run_in_chunk_le, run_in_chunk_stops}
use Rattle.std.proofs.lemmas.Simd.{trailing_mask_l}
use lib.Lanes.{chunk, mask_l, top, zip2}

module _ (xs : List ℕ) (at : ℕ) (room : at + 32 ≤ length xs) where
  -- which of the bytes are LF, as bits
  abbrev bits : ℕ
  bits = mask_l (map (top 7) (zip2 (λ a b. cond (eqb a b) 255 0) (chunk at 32 xs) (replicate 32 10))) % 2 ^ 64

  bits_are : bits ≡ mask_l (map (is_byte 10) (chunk at 32 xs))
  bits_are = bitmask_splat w8 eqb (chunk at 32 xs) 32 10 (length-chunk at 32 xs room) (omega arith)

  pub none_in_run : bits ≡ 0 → Nowhere (Passes (is_byte 10) xs) at (at + 32)
  none_in_run none = λ k least less hit.
      false≢true (sym (none_from_empty_mask (is_byte 10) xs at 32 0 room (sym bits_are ∙ none) k least less) ∙ hit)

  module _ (some : bits ≢ 0) where
    abbrev count : ℕ
    count = count_trailing_zeros 64 bits

    counted : count ≡ prefix_len (λ x. not (is_byte 10 x)) (chunk at 32 xs)
    counted = ap (count_trailing_zeros 64) bits_are
        ∙ trailing_mask_l (is_byte 10) 64 (chunk at 32 xs) (omega (arith, length-chunk at 32 xs room)) (omega (arith, bits_are, some))

    pub run_most : count ≤ 32
    run_most = run_in_chunk_le (is_byte 10) xs at 32 count 0 room counted

    pub run_none : Nowhere (Passes (is_byte 10) xs) at (at + count)
    run_none = λ k least less hit. false≢true (sym (run_in_chunk_fails (is_byte 10) xs at 32 count 0 room counted k least less) ∙ hit)

    pub run_found : count < 32 → Passes (is_byte 10) xs (at + count)
    run_found less = run_in_chunk_stops (is_byte 10) xs at 32 count 0 room counted less
