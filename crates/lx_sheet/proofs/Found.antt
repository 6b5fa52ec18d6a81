-- The row of a number, as it stands in the block, and what it is where the sheet stands for a show.
use Rattle.lx_sheet.proofs.Imports.{◌≡◌, ◌≢◌, ℕ, suc, ◌+◌, ◌-◌, ◌*◌, ◌<◌, true, List, Sheet, row_at, cases_eq, eq_true, eq_other, slice_get}
use Rattle.lx_sheet.proofs.Imports.{slice_get_within, get_or_from_slice_get, inl, inr, stands_where, ◌∷◌, [], length, get_or, take, drop, map, Some}
use Rattle.lx_sheet.proofs.Imports.{None, refl, ◌∙◌, sym, ap, arith, Option, is_some, option_map, ◌==◌, false≢true, length-take, length-drop}
use Rattle.lx_sheet.proofs.Imports.{same_lists, get_or-map, get_or_default, length-map-range_with_len, get_or-map-range_with_len, slice_get-get_or}
use Rattle.lx_sheet.proofs.Imports.{IsStrictlySorted, entry_at, StandsAt, Cue, Show, cue_of, find_mapped, tracked, row_of, Place, Marks, Row}
use Rattle.lx_sheet.proofs.Imports.{level_by, IsBlock, row_at_place, rows_of, cue_level, last_value, width, RowsStandFor, cue_numbers, found_number}
use Rattle.lx_sheet.specs.Block.{cell}
use Rattle.lx_sheet.proofs.Numbers.{absent_alike, count_there, count_up_to, count_up_to-map, same_numbers}
use Rattle.lx_sheet.proofs.Rows.{sheet_of, level_of_block, numbers-rows_of}
use Rattle.lx_sheet.proofs.Cells.{last_value_some}
use Rattle.lx_sheet.proofs.BlockReach.{covered_at}
use Rattle.lx_sheet.proofs.RowPool.{row_is}

some_there : {A B : Type 0} (o : Option A) (v : B) → is_some o ≡ true → Some v ≡ option_map (λ x. v) o
some_there None v some = absurd (false≢true some)
some_there (Some x) v some = refl

-- What is true of the entry with a number: it stands somewhere, or there is none.
pub at_entry : {A : Type 0} (key : A → ℕ) (n : ℕ) (xs : List A) (P : Option A → Type 0) → P None
    → ((k : ℕ) (x : A) → slice_get xs k ≡ Some x → key x ≡ n → P (Some x)) → P (entry_at key n xs)
at_entry key n [] P none some = none
at_entry key n (x ∷ xs) P none some = elim (cases_eq (key x) n) [
  | inl here ↦ rw (eq_true (key x) n here) (some 0 x refl here)
  | inr other ↦ rw (eq_other (key x) n other) (at_entry key n xs P none (λ k. some (suc k)))
]

-- where a number stands in the order
pub stands_number : {order : List Place} {n at : ℕ} (d : Place) → StandsAt (λ p. p.cue) n order at → (get_or order at d).cue ≡ n
stands_number {order} {n} {at} d stands =
    sym (found_number (λ (p : Place). p.cue) n order (get_or order at d) (stands.here ∙ slice_get-get_or order at d stands.within))

twice : (row : Place → Row) (o : Option Place) → option_map (λ r. r.levels) (option_map row o) ≡ option_map (λ p. (row p).levels) o
twice row None = refl
twice row (Some p) = refl

row_by : (channels : ℕ) (order : List Place) (levels : List ℕ) (n : ℕ) → option_map (λ r. r.levels)
    (entry_at (λ r. r.number) n (rows_of channels order levels))
    ≡ option_map (λ p. take channels (drop (p.row * width channels) levels)) (entry_at (λ p. p.cue) n order)
row_by channels order levels n =
    let row : Place → Row = λ p. record { number = p.cue; levels = take channels (drop (p.row * width channels) levels) } in
    ap (option_map (λ (r : Row). r.levels)) (find_mapped row (λ (r : Row). r.number == n) order)
    ∙ twice row (entry_at (λ (p : Place). p.cue) n order)

pub row_found : (channels : ℕ) {order : List Place} (levels : List ℕ) {n at : ℕ} → StandsAt (λ x. x.cue) n order at
    → Some (take channels (drop (row_at_place order at * width channels) levels))
    ≡ option_map (λ r. r.levels) (entry_at (λ r. r.number) n (rows_of channels order levels))
row_found channels {order} levels {n} {at} stands =
    let d : Place = record { cue = 0; row = 0 } in
    ap (λ r. Some (take channels (drop (r * width channels) levels))) (get_or-map (λ (x : Place). x.row) order at d 0 stands.within)
    ∙ sym (row_by channels order levels n ∙ ap (option_map (λ (p : Place). take channels (drop (p.row * width channels) levels)))
    (stands.here ∙ slice_get-get_or order at d stands.within))

pub row_absent : (channels : ℕ) (order : List Place) (levels : List ℕ) (n : ℕ) → entry_at (λ p. p.cue) n order ≡ None
    → None ≡ option_map (λ r. r.levels) (entry_at (λ r. r.number) n (rows_of channels order levels))
row_absent channels order levels n absent =
    sym (row_by channels order levels n ∙ ap (option_map (λ (p : Place). take channels (drop (p.row * width channels) levels))) absent)

-- the row of a sheet that stands for a show
row_right : {show : Show} {channels : ℕ} {order : List Place} {levels : List ℕ} {n at : ℕ} (marks : Marks) → IsBlock channels levels order
    → IsStrictlySorted (λ p. p.cue) order → StandsAt (λ p. p.cue) n order at → RowsStandFor show (sheet_of channels order levels marks)
    → take channels (drop (row_at_place order at * width channels) levels) ≡ row_of show n
unfolding cell
row_right {show} {channels} {order} {levels} {n} {at} marks block sorted place stands =
    let row : ℕ = row_at_place order at in
    let long : length (take channels (drop (row * width channels) levels)) ≡ channels =
    omega (arith, covered_at at block place.within, length-take {A = ℕ}, length-drop {A = ℕ}) in
    let count : count_up_to n (map (λ (p : Place). p.cue) order) ≡ suc at =
    omega (arith, count_up_to-map (λ (p : Place). p.cue) n order, count_there sorted place) in
    let cells : (c : ℕ) → cell channels levels row c ≡ tracked show n c = λ c.
    sym (level_of_block channels order levels n c sorted ∙ ap (λ k. last_value k (λ i. cue_level channels order levels i c)) count)
    ∙ stands.columns c n in
    same_lists (take channels (drop (row * width channels) levels)) (row_of show n)
    (long ∙ stands.channels ∙ sym (length-map-range_with_len (tracked show n) 1 show.channels))
    (λ k d less.
    get_or_default (take channels (drop (row * width channels) levels)) k d 0 less
    ∙ cells (suc k)
    ∙ sym (get_or-map-range_with_len (tracked show n) 1 show.channels k (suc k) d (omega (arith, less, long, stands.channels))
    (omega arith)))

-- so it has the levels of each cue
pub row_stands : {show : Show} {channels : ℕ} {order : List Place} (levels : List ℕ) (marks : Marks) {sheet : Sheet} (n : ℕ)
    → sheet_of channels order levels marks ≡ sheet → IsBlock channels levels order → IsStrictlySorted (λ p. p.cue) order
    → RowsStandFor show sheet → option_map (λ r. r.levels) (row_at sheet n) ≡ option_map (λ cue. row_of show n) (cue_of show n)
row_stands {show} {channels} {order} levels marks n seen block sorted stands =
    let stood : RowsStandFor show (sheet_of channels order levels marks) = rw seen stands in
    let numbers : map (λ (p : Place). p.cue) order ≡ cue_numbers show = sym (numbers-rows_of channels order levels) ∙ stood.numbers in
    rw (← seen, row_by channels order levels n)
    (at_entry (λ (p : Place). p.cue) n order (λ o. entry_at (λ p. p.cue) n order ≡ o
    → option_map (λ p. take channels (drop (p.row * width channels) levels)) o ≡ option_map (λ cue. row_of show n) (cue_of show n))
    (λ absent. sym (ap (option_map (λ (cue : Cue). row_of show n))
    (absent_alike (λ (p : Place). p.cue) (λ (cue : Cue). cue.number) n order show.cues numbers absent)))
    (λ k p there number found.
    let within : k < length order = slice_get_within order k p there in
    let is : p ≡ get_or order k p = sym (get_or_from_slice_get order k p p there) in
    rw (← row_is order k p within is)
    (ap Some (row_right marks block sorted (stands_where (λ (x : Place). x.cue) n order k p sorted within is number) stood)
    ∙ some_there (cue_of show n) (row_of show n)
    (sym (same_numbers (λ (x : Place). x.cue) (λ (cue : Cue). cue.number) n order show.cues numbers) ∙ ap is_some found))) refl)

-- the levels at a number stand in the row of the last cue up to it
pub look_found : (channels : ℕ) (order : List Place) (levels : List ℕ) (n k : ℕ) → IsStrictlySorted (λ p. p.cue) order → k < channels
    → count_up_to n (map (λ p. p.cue) order) ≢ 0
    → get_or (take channels (drop (row_at_place order (count_up_to n (map (λ p. p.cue) order) - 1) * width channels) levels)) k 0
    ≡ level_by (rows_of channels order levels) n (k + 1)
unfolding cell
look_found channels order levels n k sorted less some =
    let next : suc k ≡ k + 1 = omega arith in
    sym (last_value_some (count_up_to n (map (λ (p : Place). p.cue) order)) (λ i. cue_level channels order levels i (suc k)) some)
    ∙ sym (level_of_block channels order levels n (suc k) sorted)
    ∙ ap (λ c. level_by (rows_of channels order levels) n c) next

pub look_none : (channels : ℕ) (order : List Place) (levels : List ℕ) (n c : ℕ) → IsStrictlySorted (λ p. p.cue) order
    → count_up_to n (map (λ p. p.cue) order) ≡ 0 → level_by (rows_of channels order levels) n c ≡ 0
look_none channels order levels n c sorted none =
    level_of_block channels order levels n c sorted ∙ ap (λ j. last_value j (λ k. cue_level channels order levels k c)) none
