-- A table of the patch goes on standing for its rows, as they are placed and taken out.
use Rattle.lx_patch.proofs.Imports.{◌≡◌, ℕ, ◌+◌, ◌-◌, ◌<◌, ◌≤◌, Bool, true, not, ◌==◌, ◌&&◌, Option, None, Some, List, ◌∷◌, find, option_map_or}
use Rattle.lx_patch.proofs.Imports.{arith, length, get_or, drop, set, replicate, ◌∙◌, ap, sym, inl, inr, length-replicate, get_or-replicate, not-true}
use Rattle.lx_patch.proofs.Imports.{cases_eq, SLOTS, PatchRow, entry_at, placed, taken_out, table_of_same, table-set, DimmerTable, IsWired, place_of}
use Rattle.lx_patch.proofs.Imports.{proportion_of, StandsForPatch}
use Rattle.std.proofs.lemmas.Bool.Decides.{nat_tests}
use Rattle.std.proofs.lemmas.List.{drop_more}
use Rattle.lx_spec.proofs.Comparisons.{and_known, eq_other, eq_true}
use Rattle.lx_spec.proofs.Lists.{each, find_both, find_none, passes}
use Rattle.lx_spec.proofs.SortedLists.{entry_at-placed_here, entry_at-placed_other}

-- neither is it when every place and level is 0
pub wired_none : (places levels : List ℕ) → places ≡ replicate SLOTS 0 → levels ≡ replicate SLOTS 0 → IsWired places levels
wired_none places levels places_are levels_are = record {
  places_reach = ap length places_are ∙ length-replicate {A = ℕ} SLOTS 0;
  levels_reach = ap length levels_are ∙ length-replicate {A = ℕ} SLOTS 0;
  channels = λ e within. omega (arith, ap (λ (xs : List ℕ). get_or xs e 0) places_are ∙ get_or-replicate {A = ℕ} SLOTS e 0 0 within);
}

-- the rows change at one dimmer
stands_set : {rows : List PatchRow} (now : List PatchRow) {places levels : List ℕ} (at : ℕ) (row : Option PatchRow)
    → StandsForPatch rows (record { places = places; levels = levels }) → 1 ≤ at → at ≤ SLOTS → entry_at (λ x. x.dimmer) at now ≡ row
    → ((c : ℕ) → (c ≡ at → ⊥) → entry_at (λ x. x.dimmer) c now ≡ entry_at (λ x. x.dimmer) c rows)
    → StandsForPatch now (record
    { places = set places (at - 1) (option_map_or (λ r. r.chan - 1) row 0); levels = set levels (at - 1) (option_map_or (λ r. r.level) row 0) })
stands_set {rows} now {places} {levels} at row stands least most here others = record {
  places = table-set SLOTS at _ (place_of rows) (place_of now) places stands.places least most (rw here) (λ c other. rw (others c other));
  levels = table-set SLOTS at _ (proportion_of rows) (proportion_of now) levels stands.levels least most (rw here)
      (λ c other. rw (others c other));
}

-- a row is placed
pub stands_placed : (rows : List PatchRow) (row : PatchRow) {places levels : List ℕ} {at chan : ℕ}
    → StandsForPatch rows (record { places = places; levels = levels }) → at ≡ row.dimmer → chan ≡ row.chan → 1 ≤ at → at ≤ SLOTS
    → StandsForPatch (placed (λ x. x.dimmer) row rows)
    (record { places = set places (at - 1) (chan - 1); levels = set levels (at - 1) row.level })
stands_placed rows row {at = at} stands is chan_is least most = rw chan_is (stands_set (placed (λ x. x.dimmer) row rows) at (Some row) stands
    least most (entry_at-placed_here (λ x. x.dimmer) at row rows (sym is))
    (λ c other. entry_at-placed_other (λ x. x.dimmer) c row rows (λ same. other (sym same ∙ sym is))))

apart_from : (a n m : ℕ) → (m ≡ n → ⊥) → (a == m) ≡ true → not (a == n) ≡ true
apart_from a n m other same = grind (arith, nat_tests)

-- what is taken out isn't found
pub gone : (n : ℕ) (rows : List PatchRow) → entry_at (λ x. x.dimmer) n (taken_out (λ x. x.dimmer) n rows) ≡ None
gone n rows = find_none _ _ (each _ _ _ (λ row h. not-true (row.dimmer == n) h) (passes (λ row. not (row.dimmer == n)) rows))

-- the others are found as before
pub others_stay : (n m : ℕ) (rows : List PatchRow) → (m ≡ n → ⊥)
    → entry_at (λ x. x.dimmer) m (taken_out (λ x. x.dimmer) n rows) ≡ entry_at (λ x. x.dimmer) m rows
others_stay n m rows other =
    let same : (λ (row : PatchRow). not (row.dimmer == n) && (row.dimmer == m)) ≡ (λ row. row.dimmer == m) =
    λ i row. and_known (not (row.dimmer == n)) (row.dimmer == m) (apart_from row.dimmer n m other) i in
    find_both (λ row. not (row.dimmer == n)) (λ row. row.dimmer == m) rows ∙ ap (λ (t : PatchRow → Bool). find t rows) same

-- a row is taken out
pub stands_without : (rows : List PatchRow) (n : ℕ) {places levels : List ℕ} {at : ℕ}
    → StandsForPatch rows (record { places = places; levels = levels }) → at ≡ n → 1 ≤ at → at ≤ SLOTS
    → StandsForPatch (taken_out (λ x. x.dimmer) n rows) (record { places = set places (at - 1) 0; levels = set levels (at - 1) 0 })
stands_without rows n {at = at} stands is least most = stands_set (taken_out (λ x. x.dimmer) n rows) at None stands least most
    (ap (λ e. entry_at (λ x. x.dimmer) e (taken_out (λ x. x.dimmer) n rows)) is ∙ gone n rows)
    (λ c other. others_stay n c rows (λ same. other (same ∙ sym is)))

-- the rows from a place on are the row there and those after it
pub drop_before : (rows : List PatchRow) (i : ℕ) (row : PatchRow) → 0 < i → i ≤ length rows → row ≡ get_or rows (i - 1) row
    → drop (i - 1) rows ≡ row ∷ drop i rows
drop_before rows i row some within is =
    let next : i - 1 + 1 ≡ i = omega arith in rw (drop_more rows (i - 1) row (omega arith), next, ← is)

-- a row placed is found as one set before the others
placed_first : (row : PatchRow) (rows : List PatchRow) (e : ℕ)
    → entry_at (λ x. x.dimmer) e (placed (λ x. x.dimmer) row rows) ≡ entry_at (λ x. x.dimmer) e (row ∷ rows)
placed_first row rows e = elim (cases_eq row.dimmer e) [
  | inl here ↦ rw (eq_true row.dimmer e here) (entry_at-placed_here (λ x. x.dimmer) e row rows here)
  | inr other ↦ rw (eq_other row.dimmer e other) (entry_at-placed_other (λ x. x.dimmer) e row rows other)
]

-- a table stands for all rows that are found alike
pub stands_alike : (one other : List PatchRow) (table : DimmerTable)
    → ((e : ℕ) → entry_at (λ x. x.dimmer) e one ≡ entry_at (λ x. x.dimmer) e other) → StandsForPatch one table → StandsForPatch other table
stands_alike one other table alike stands = record {
  places = table_of_same SLOTS (place_of one) (place_of other) table.places (λ e least most. rw (alike e)) stands.places;
  levels = table_of_same SLOTS (proportion_of one) (proportion_of other) table.levels (λ e least most. rw (alike e)) stands.levels;
}

pub stands_first : (row : PatchRow) (rows : List PatchRow) (table : DimmerTable) → StandsForPatch (placed (λ x. x.dimmer) row rows) table
    → StandsForPatch (row ∷ rows) table
stands_first row rows table stands = stands_alike (placed (λ x. x.dimmer) row rows) (row ∷ rows) table (placed_first row rows) stands
