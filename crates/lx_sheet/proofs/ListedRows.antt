-- Cues that were listed again, each with the row of its own place.
use Rattle.lx_sheet.proofs.Imports.{◌≡◌, ℕ, suc, ◌+◌, ◌*◌, ◌<◌, ◌≤◌, List, [], ◌∷◌, ◌++◌, length, get_or, map, take, reverse, refl, ◌∙◌, sym, ap}
use Rattle.lx_sheet.proofs.Imports.{subst, arith, range_with_len, length-range_with_len, get_or-range_with_len, mul-le-mul_right}
use Rattle.lx_sheet.proofs.Imports.{IsPermutation-append_right, IsPermutation-reverse, Cue, Show, IsStrictlySorted, Marks, Place, CHANNELS, CUES}
use Rattle.lx_sheet.proofs.Imports.{cell, own_rows, placed_from, width, row_at_place, IsBlock, IsMarkedFor, IsPool, level_after}
use Rattle.lx_sheet.proofs.MarkedRows.{AtPlaces}
use Rattle.lx_sheet.proofs.Numbers.{sorted_alike, same_length}
use Rattle.lx_sheet.proofs.RowPool.{own_apart, pool_moved, range_append, range_apart}

-- the cues in order, each with a row
numbers-placed_from : (row : ℕ) (cues : List Cue) → map (λ p. p.cue) (placed_from row cues) ≡ map (λ cue. cue.number) cues
numbers-placed_from row [] = refl
numbers-placed_from row (cue ∷ cues) = ap (λ ns. cue.number ∷ ns) (numbers-placed_from (suc row) cues)

pub IsStrictlySorted-placed_from : (row : ℕ) (cues : List Cue) → IsStrictlySorted (λ cue. cue.number) cues
    → IsStrictlySorted (λ p. p.cue) (placed_from row cues)
IsStrictlySorted-placed_from row cues =
    sorted_alike (λ (cue : Cue). cue.number) (λ (p : Place). p.cue) cues (placed_from row cues) (sym (numbers-placed_from row cues))

pub length-placed_from : (row : ℕ) (cues : List Cue) → length (placed_from row cues) ≡ length cues
length-placed_from row cues =
    same_length (λ (p : Place). p.cue) (λ (cue : Cue). cue.number) (placed_from row cues) cues (numbers-placed_from row cues)

pub placed_from-more : (row : ℕ) (cues : List Cue) (cue : Cue)
    → placed_from row (cues ++ cue ∷ []) ≡ placed_from row cues ++ record { cue = cue.number; row = row + length cues } ∷ []
placed_from-more row [] cue = let e : row ≡ row + 0 = omega arith in ap (λ r. record { cue = cue.number; row = r } ∷ []) e
placed_from-more row (x ∷ cues) cue =
    let e : suc row + length cues ≡ row + suc (length cues) = omega arith in
    ap (λ ps. record { cue = x.number; row = row } ∷ ps)
    (placed_from-more (suc row) cues cue ∙ ap (λ r. placed_from (suc row) cues ++ record { cue = cue.number; row = r } ∷ []) e)

own-placed_from : (a : ℕ) (cues : List Cue) → own_rows (placed_from a cues) ≡ range_with_len a (length cues)
own-placed_from a [] = refl
own-placed_from a (cue ∷ cues) =
    let e : suc a ≡ a + 1 = omega arith in
    ap (λ xs. a ∷ xs) (own-placed_from (suc a) cues ∙ ap (λ k. range_with_len k (length cues)) e)

whole_pool : (cues : List Cue) (n : ℕ) → length cues + n ≡ CUES → IsPool (placed_from 0 cues) (range_with_len (length cues) n)
whole_pool cues n all =
    let start : length cues ≡ 0 + length cues = omega arith in
    let rows : own_rows (placed_from 0 cues) ++ range_with_len (length cues) n ≡ range_with_len 0 (length cues + n) =
    ap (λ (xs : List ℕ). xs ++ range_with_len (length cues) n) (own-placed_from 0 cues)
    ∙ ap (λ k. range_with_len 0 (length cues) ++ range_with_len k n) start
    ∙ range_append 0 (length cues) n in
    record {
      apart = rw rows (range_apart (length cues + n) (omega arith));
      all = ap length rows ∙ length-range_with_len 0 (length cues + n) ∙ all;
    }

-- the cues listed, and the rows above theirs freed
pub listed_pool : (order : List Place) (free : List ℕ) (cues : List Cue) (n : ℕ) → order ≡ placed_from 0 cues
    → free ≡ reverse (range_with_len (length cues) n) → length cues + n ≡ CUES → IsPool order free
listed_pool order free cues n listed freed all =
    rw (listed, freed) (pool_moved (placed_from 0 cues) (placed_from 0 cues) (range_with_len (length cues) n)
    (reverse (range_with_len (length cues) n))
    (IsPermutation-append_right (own_rows (placed_from 0 cues)) _ _ (IsPermutation-reverse (range_with_len (length cues) n)))
    (whole_pool cues n all))

-- over the rows of cues that were listed, where it is as long
pub block_listed : {channels : ℕ} {levels : List ℕ} {order : List Place} {free : List ℕ} (cues : List Cue) → channels ≤ CHANNELS
    → IsPool order free → order ≡ placed_from 0 cues → length cues * width channels ≤ length levels → IsBlock channels levels order
block_listed {channels} {levels} cues few pool listed long = record {
  few = few;
  covered = rw (ap own_rows listed ∙ own-placed_from 0 cues) (λ k d within.
      let less : k < length cues = omega (arith, length-range_with_len 0 (length cues)) in
      let row : k ≡ get_or (range_with_len 0 (length cues)) k d = omega (arith, get_or-range_with_len 0 (length cues) k d less) in
      subst (λ r. (r + 1) * width channels ≤ length levels) row
      (omega (arith, long, mul-le-mul_right {m = k + 1} {n = length cues} (width channels) (omega arith))));
  apart = own_apart pool;
}

row_listed : {order : List Place} (cues : List Cue) (k : ℕ) → order ≡ placed_from 0 cues → k < length cues → row_at_place order k ≡ k
row_listed cues k listed within =
    ap (λ (xs : List ℕ). get_or xs k 0) (ap own_rows listed ∙ own-placed_from 0 cues)
    ∙ omega (arith, get_or-range_with_len 0 (length cues) k 0 within)

-- where the rows and the marks of each place's row are right, those at the places are
pub listed_places : {show : Show} {channels : ℕ} {order : List Place} {levels : List ℕ} {marks : Marks} → channels ≡ show.channels
    → order ≡ placed_from 0 show.cues → IsStrictlySorted (λ cue. cue.number) show.cues
    → ((k : ℕ) → k < length show.cues → (c : ℕ) → cell channels levels k c ≡ level_after (take (k + 1) show.cues) c)
    → ((k : ℕ) (cue : Cue) → k < length show.cues → cue ≡ get_or show.cues k cue → IsMarkedFor channels marks k cue)
    → AtPlaces show channels order levels marks
listed_places {show} same listed sorted right marked = record {
  same = same;
  is = record {
    sorted = rw listed (IsStrictlySorted-placed_from 0 show.cues sorted);
    cues_sorted = sorted;
    numbers = ap (map (λ (p : Place). p.cue)) listed ∙ numbers-placed_from 0 show.cues;
  };
  right = λ k c within. rw (row_listed show.cues k listed within) (right k within c);
  marked = λ k cue within is. rw (row_listed show.cues k listed within) (marked k cue within is);
}
