-- The cues' own rows and the free ones: apart, and together all rows of the block, whatever comes or goes.
use Rattle.lx_sheet.proofs.Imports.{◌≡◌, ◌≢◌, ℕ, zero, suc, ◌+◌, ◌<◌, ◌≤◌, false, List, [], ◌∷◌, ◌++◌, length, get_or, ◌∙◌, sym, ap, inl, inr, arith}
use Rattle.lx_sheet.proofs.Imports.{insert, remove, ◌==◌, range_with_len, cases_order, false≢true, append_assoc, map-append, take-map, drop-map}
use Rattle.lx_sheet.proofs.Imports.{length-map, length-append, get_or-map, get_or_append_left, length-range_with_len, get_or-range_with_len}
use Rattle.lx_sheet.proofs.Imports.{IsPermutation-sym, IsPermutation-trans, IsPermutation-to_front, IsPermutation-append_left, IsPermutation-insert}
use Rattle.lx_sheet.proofs.Imports.{IsPermutation-remove, All-permutation, length_permutation, CUES, eq_true, eq_below, Place, AreApart, IsBlock}
use Rattle.lx_sheet.proofs.Imports.{IsPool, own_rows, row_at_place}
use Rattle.std.specs.List.Sorted.{IsPermutation}
use Rattle.std.proofs.lemmas.Bool.Decides.{nat_tests}
use Rattle.std.proofs.lemmas.Map.Keys.{apart_from_distinct, IsDistinct-from_apart, IsDistinct-IsPermutation}

-- the row of the cue that is read at a place
pub row_is : (order : List Place) (k : ℕ) (p : Place) → k < length order → p ≡ get_or order k p → row_at_place order k ≡ p.row
row_is order k p within is = get_or-map (λ (x : Place). x.row) order k p 0 within ∙ ap (λ (x : Place). x.row) (sym is)

pub row_within : (order : List Place) (k : ℕ) → AreApart (own_rows order) → k < length order → row_at_place order k < CUES
row_within order k rows within = rows.within k 0 (omega (arith, length-map order (λ (p : Place). p.row)))

-- two places have two rows
differ : (rows : List ℕ) (i k : ℕ) → AreApart rows → i < k → k < length rows → get_or rows i 0 ≢ get_or rows k 0
differ rows i k apart less within same =
    false≢true (sym (apart_from_distinct (λ a b. a == b) rows i k 0 apart.distinct less within)
    ∙ eq_true (get_or rows i 0) (get_or rows k 0) same)

pub rows_differ : {n : ℕ} {levels : List ℕ} {order : List Place} (i k : ℕ) → IsBlock n levels order → i < length order → k < length order
    → i ≢ k
    → row_at_place order i ≢ row_at_place order k
rows_differ {order = order} i k block low high other same =
    let long : length (own_rows order) ≡ length order = length-map order (λ (p : Place). p.row) in
    elim (cases_order i k) [
      | inl here ↦ other here
      | inr two ↦ elim two [
        | inl less ↦ differ (own_rows order) i k block.apart less (omega (arith, long)) same
        | inr more ↦ differ (own_rows order) k i block.apart more (omega (arith, long)) (sym same)
      ]
    ]

-- the cues' own rows are apart too
pub own_apart : {order : List Place} {free : List ℕ} → IsPool order free → AreApart (own_rows order)
own_apart {order} {free} pool =
    let own : List ℕ = own_rows order in
    let long : length (own ++ free) ≡ length own + length free = length-append own free in
    record {
      distinct = IsDistinct-from_apart (λ a b. a == b) own (λ i j d less within.
          rw (← get_or_append_left own free d i (omega arith), ← get_or_append_left own free d j within)
          (apart_from_distinct (λ a b. a == b) (own ++ free) i j d pool.apart.distinct less (omega (arith, long))));
      within = λ k d within. rw (← get_or_append_left own free d k within) (pool.apart.within k d (omega (arith, long)));
    }

-- in another order rows stay apart
flips : (a b : ℕ) → (a == b) ≡ (b == a)
flips a b = grind (arith, nat_tests)

pub pool_moved : (old new : List Place) (free spare : List ℕ) → IsPermutation (own_rows old ++ free) (own_rows new ++ spare)
    → IsPool old free → IsPool new spare
pool_moved old new free spare same pool = record {
  apart = record {
    distinct = IsDistinct-IsPermutation (λ a b. a == b) flips (own_rows old ++ free) (own_rows new ++ spare) same pool.apart.distinct;
    within = All-permutation (λ r. r < CUES) (own_rows old ++ free) (own_rows new ++ spare) same pool.apart.within;
  };
  all = length_permutation (own_rows old ++ free) (own_rows new ++ spare) same ∙ pool.all;
}

pub own-insert : (order : List Place) (at : ℕ) (p : Place) → own_rows (insert order at p) ≡ insert (own_rows order) at p.row
own-insert order at p = simp (map-append, take-map, drop-map)

pub own-remove : (order : List Place) (at : ℕ) → own_rows (remove order at) ≡ remove (own_rows order) at
own-remove order at = simp (map-append, take-map, drop-map)

-- the last free row becomes a cue's own
pub pool_taken : (order : List Place) (free : List ℕ) (at : ℕ) (p : Place) → IsPool order (free ++ p.row ∷ [])
    → IsPool (insert order at p) free
pool_taken order free at p = pool_moved order (insert order at p) (free ++ p.row ∷ []) free
    (rw (own-insert order at p, ← append_assoc (own_rows order) free (p.row ∷ []))
    (IsPermutation-trans _ (p.row ∷ (own_rows order ++ free)) _ (IsPermutation-to_front (own_rows order ++ free) p.row)
    (IsPermutation-append_left free (p.row ∷ own_rows order) _ (IsPermutation-insert (own_rows order) at p.row))))

-- a cue's own row becomes the last free one
rows_freed : (rows free : List ℕ) (at row : ℕ) → at < length rows → row ≡ get_or rows at row
    → IsPermutation (rows ++ free) (remove rows at ++ (free ++ row ∷ []))
rows_freed rows free at row within is = rw (← append_assoc (remove rows at) free (row ∷ []))
    (IsPermutation-trans _ (row ∷ (remove rows at ++ free)) _
    (IsPermutation-append_left free rows (row ∷ remove rows at) (IsPermutation-remove rows at row within is))
    (IsPermutation-sym _ _ (IsPermutation-to_front (remove rows at ++ free) row)))

pub pool_freed : (order : List Place) (free : List ℕ) (at : ℕ) (p : Place) → at < length order → p ≡ get_or order at p → IsPool order free
    → IsPool (remove order at) (free ++ p.row ∷ [])
pool_freed order free at p within is = pool_moved order (remove order at) free (free ++ p.row ∷ [])
    (rw (own-remove order at) (rows_freed (own_rows order) free at p.row (omega (arith, length-map order (λ (x : Place). x.row)))
    (sym (get_or-map (λ (x : Place). x.row) order at p p.row within ∙ ap (λ (x : Place). x.row) (sym is)))))

-- all rows in order
pub range_append : (a m n : ℕ) → range_with_len a m ++ range_with_len (a + m) n ≡ range_with_len a (m + n)
range_append a zero n =
    let e : a + 0 ≡ a = omega arith in
    let f : 0 + n ≡ n = omega arith in rw (e, f)
range_append a (suc m) n =
    let e : a + suc m ≡ a + 1 + m = omega arith in
    let f : suc m + n ≡ suc (m + n) = omega arith in
    rw (e, f) (ap (λ xs. a ∷ xs) (range_append (a + 1) m n))

pub range_apart : (n : ℕ) → n ≤ CUES → AreApart (range_with_len 0 n)
range_apart n few =
    let long : length (range_with_len 0 n) ≡ n = length-range_with_len 0 n in record {
      distinct = IsDistinct-from_apart (λ a b. a == b) (range_with_len 0 n) (λ i j d less within.
          rw (get_or-range_with_len 0 n i d (omega arith), get_or-range_with_len 0 n j d (omega arith))
          (eq_below (0 + i) (0 + j) (omega arith)));
      within = λ k d within. omega (arith, get_or-range_with_len 0 n k d (omega arith));
    }
