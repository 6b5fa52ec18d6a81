-- The rows of cues, by their places in the order, and the level that they give at a number.
use Rattle.lx_sheet.proofs.Imports.{◌≡◌, ℕ, zero, suc, ◌-◌, ◌<◌, ◌≤◌, List, [], ◌∷◌, length, take, map, refl, ◌∙◌, sym, ap, arith, inl, inr, Option}
use Rattle.lx_sheet.proofs.Imports.{find, reverse, nat_le, slice_get, option_map_or, cases_lt, length-map, IsStrictlySorted, entries_up_to, Place}
use Rattle.lx_sheet.proofs.Imports.{Marks, Row, Sheet, level_in_row, marks_of, rows_of, cue_level, last_value, le_false, le_true, each, filter_none}
use Rattle.lx_sheet.proofs.Imports.{find_last}
use Rattle.lx_sheet.proofs.Numbers.{count_up_to, count_up_to-map, count_within, sorted_alike}
use Rattle.lx_sheet.specs.Rows.{level_by}
use Rattle.lx_sheet.specs.Block.{cell}

-- those up to a number stand in front
pub up_to_is_front : {A : Type 0} (key : A → ℕ) (n : ℕ) (xs : List A) → IsStrictlySorted key xs
    → entries_up_to key n xs ≡ take (count_up_to n (map key xs)) xs
up_to_is_front key n [] sorted = refl
up_to_is_front {A} key n (x ∷ xs) sorted =
    elim (cases_lt n (key x)) [
      | inl past ↦
          let none : entries_up_to key n xs ≡ [] = filter_none _ xs (each _ _ xs (λ y h. le_false (key y) n (omega arith)) sorted.0) in
          let no_count : count_up_to n (map key xs) ≡ 0 = sym (count_up_to-map key n xs) ∙ ap length none in
          rw (le_false (key x) n past) (none ∙ ap (λ k. take k (x ∷ xs)) (sym no_count))
      | inr within ↦ rw (le_true (key x) n within) (ap (λ ys. x ∷ ys) (up_to_is_front key n xs sorted.1))
    ]

slice_get-take : {A : Type 0} (xs : List A) (k : ℕ) → slice_get (take (suc k) xs) k ≡ slice_get xs k
slice_get-take [] k = refl
slice_get-take (x ∷ xs) zero = refl
slice_get-take (x ∷ xs) (suc k) = slice_get-take xs k

last_of_front : {A : Type 0} (f : A → ℕ) (xs : List A) (j : ℕ)
    → option_map_or f (slice_get (take j xs) (j - 1)) 0 ≡ last_value j (λ k. option_map_or f (slice_get xs k) 0)
last_of_front f xs zero = refl
last_of_front {A} f xs (suc k) =
    let e : suc k - 1 ≡ k = omega arith in
    ap (λ (o : Option A). option_map_or f o 0) (ap (slice_get (take (suc k) xs)) e ∙ slice_get-take xs k)

-- the last entry up to a number, by its place
pub last_up_to : {A : Type 0} (key f : A → ℕ) (n : ℕ) (xs : List A) → IsStrictlySorted key xs
    → option_map_or f (find (λ x. nat_le (key x) n) (reverse xs)) 0
    ≡ last_value (count_up_to n (map key xs)) (λ k. option_map_or f (slice_get xs k) 0)
last_up_to key f n xs sorted =
    rw (← find_last (λ x. nat_le (key x) n) xs, count_up_to-map key n xs, up_to_is_front key n xs sorted)
    (last_of_front f xs (count_up_to n (map key xs)))

pub numbers-rows_of : (channels : ℕ) (order : List Place) (levels : List ℕ)
    → map (λ r. r.number) (rows_of channels order levels) ≡ map (λ p. p.cue) order
numbers-rows_of channels [] levels = refl
numbers-rows_of channels (p ∷ order) levels = ap (λ ns. p.cue ∷ ns) (numbers-rows_of channels order levels)

-- a level in the row of the cue at a place
level_at_place : (channels : ℕ) (order : List Place) (levels : List ℕ) (k c : ℕ) → k < length order
    → option_map_or (λ row. level_in_row row c) (slice_get (rows_of channels order levels) k) 0 ≡ cue_level channels order levels k c
unfolding cell
level_at_place channels [] levels k c within = absurd (omega arith)
level_at_place channels (q ∷ order) levels zero c within = refl
level_at_place channels (q ∷ order) levels (suc k) c within = level_at_place channels order levels k c (omega arith)

-- two values that agree at each place
pub last_value_same : (count : ℕ) (f g : ℕ → ℕ) → ((k : ℕ) → k < count → f k ≡ g k) → last_value count f ≡ last_value count g
last_value_same zero f g same = refl
last_value_same (suc k) f g same = same k (omega arith)

-- the sheet of a block and its marks
abbrev pub sheet_of : ℕ → List Place → List ℕ → Marks → Sheet
sheet_of channels order levels marks =
    record { channels = channels; rows = rows_of channels order levels; marks = marks_of channels order marks }

-- the level at a number stands in the row of the last cue up to it
pub level_of_block : (channels : ℕ) (order : List Place) (levels : List ℕ) (n c : ℕ) → IsStrictlySorted (λ p. p.cue) order
    → level_by (rows_of channels order levels) n c
    ≡ last_value (count_up_to n (map (λ p. p.cue) order)) (λ k. cue_level channels order levels k c)
unfolding level_by
level_of_block channels order levels n c sorted =
    let numbers : List ℕ = map (λ (p : Place). p.cue) order in
    let within : count_up_to n numbers ≤ length order = omega (arith, count_within n numbers, length-map order (λ (p : Place). p.cue)) in
    last_up_to (λ (r : Row). r.number) (λ (r : Row). level_in_row r c) n (rows_of channels order levels)
    (sorted_alike (λ (p : Place). p.cue) (λ (r : Row). r.number) order _ (sym (numbers-rows_of channels order levels)) sorted)
    ∙ rw (numbers-rows_of channels order levels)
    (last_value_same (count_up_to n numbers) _ _ (λ k less. level_at_place channels order levels k c (omega (arith, within, less))))
