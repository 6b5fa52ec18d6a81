-- Parts of a text, and bytes that are looked for in them.
use Rattle.lx_lex.proofs.Imports.{◌≡◌, ℕ, suc, ◌+◌, ◌-◌, ◌<◌, ◌≤◌, List, [], ◌∷◌, ◌++◌, length, take, drop, get_or, true}
use Rattle.lx_lex.proofs.Imports.{false, nat_lt, None, sym, ap, ◌∙◌, subst, inl, inr, arith, append_assoc, add-one, slice_range, take-add, drop-cons}
use Rattle.lx_lex.proofs.Imports.{eqb-true, cases_lt, lt-ltb, nat_tests, common_steps, get_or-take, get_or-drop, drop-drop, list_any_at, IsFirstByte, Nowhere}
use Rattle.lx_lex.proofs.Imports.{Passes, is_byte, has_feed}
use Rattle.lx_lex.proofs.Feeds.{feed-none, has_feed-no_feed}

module _ (xs : List ℕ) (s e : ℕ) where
  range-at : (k : ℕ) → k < e - s → get_or (slice_range xs s e) k 0 ≡ get_or xs (s + k) 0
  range-at k lt = get_or-take (e - s) (drop s xs) k 0 lt ∙ get_or-drop s xs k 0

  -- what stands nowhere between stands nowhere in the part
  pub nowhere-part : (b : ℕ) → Nowhere (Passes (is_byte b) xs) s e → IsFirstByte (is_byte b) (slice_range xs s e) None
  nowhere-part b h = λ k low high hit.
      let inside : k < e - s = grind (arith, common_steps, high) in
      h (s + k) (omega arith) (omega arith) (subst (λ v. is_byte b v ≡ true) (range-at k inside) hit)

  -- a part and the next
  pub range-then : (m : ℕ) → s ≤ m → m ≤ e → slice_range xs s e ≡ slice_range xs s m ++ slice_range xs m e
  range-then m low high =
      let parts : e - s ≡ (m - s) + (e - m) = omega arith in
      let at : s + (m - s) ≡ m = omega arith in
      ap (λ n. take n (drop s xs)) parts ∙ take-add (m - s) (e - m) (drop s xs)
      ∙ ap (λ v. slice_range xs s m ++ take (e - m) v) (drop-drop (m - s) s xs ∙ ap (λ n. drop n xs) at)

  range-first : s < e → e ≤ length xs → slice_range xs s e ≡ get_or xs s 0 ∷ slice_range xs (s + 1) e
  range-first some within =
      let size : e - s ≡ suc (e - suc s) = omega arith in
      let inside : s < length xs = omega arith in
      ap (take (e - s)) (drop-cons xs s 0 inside) ∙ ap (λ n. take n (get_or xs s 0 ∷ drop (suc s) xs)) size
      ∙ ap (λ n. get_or xs s 0 ∷ slice_range xs n e) (sym (add-one s))

-- a part is cut at its first LF
module _ (xs : List ℕ) (s f e : ℕ) (low : s ≤ f) (within : e ≤ length xs) where
  pub range-fed : f < e → Passes (is_byte 10) xs f → slice_range xs s e ≡ (slice_range xs s f ++ 10 ∷ []) ++ slice_range xs (f + 1) e
  range-fed lt hit =
      range-then xs s e f low (omega arith)
      ∙ ap (λ v. slice_range xs s f ++ v) (range-first xs f e lt within ∙ ap (λ v. v ∷ slice_range xs (f + 1) e) (eqb-true (get_or xs f 0) 10 hit))
      ∙ sym (append_assoc (slice_range xs s f) (10 ∷ []) (slice_range xs (f + 1) e))

  pub has_feed-range : f ≤ e → Nowhere (Passes (is_byte 10) xs) s f → (f < e → Passes (is_byte 10) xs f)
      → has_feed (slice_range xs s e) ≡ nat_lt f e
  has_feed-range high none hit = elim (cases_lt f e) [
    | inl lt ↦
        let size : f - s < length (slice_range xs s e) = grind (arith, common_steps) in
        let at : s + (f - s) ≡ f = omega arith in
        let stands : get_or xs f 0 ≡ get_or (slice_range xs s e) (f - s) 0 =
        ap (λ m. get_or xs m 0) (sym at) ∙ sym (range-at xs s e (f - s) (omega arith)) in
        list_any_at (λ b. is_byte 10 b) (slice_range xs s e) (f - s) 0 size (subst (λ v. is_byte 10 v ≡ true) stands (hit lt))
        ∙ sym (lt-ltb f e lt)
    | inr le ↦
        let all : f ≡ e = omega arith in
        let absent : nat_lt f e ≡ false = grind (arith, nat_tests) in
        has_feed-no_feed (slice_range xs s e) (feed-none _ (nowhere-part xs s e 10 (subst (Nowhere (Passes (is_byte 10) xs) s) all none)))
        ∙ sym absent
  ]
