-- A column that was filled in from a cue on stands for the show.
use Rattle.lx_sheet.proofs.Imports.{◌≡◌, ℕ, zero, suc, ◌+◌, ◌<◌, ◌≤◌, ◌&&◌, Bool, true, List, [], ◌∷◌, length, get_or, take, ◌∙◌, subst, arith, inl}
use Rattle.lx_sheet.proofs.Imports.{inr, Option, IfSome, filter, find, option_map, nat_le, nat_lt, cases_lt, length-map, get_or-map, slice_get-get_or}
use Rattle.lx_sheet.proofs.Imports.{All-from_recursion, IsStrictlySorted, Cue, Show, new_cue, decides, tracked, lt_true, entries_up_to, Place, Sheet}
use Rattle.lx_sheet.proofs.Imports.{level_by, level_of, rows_of, cue_level, last_value, count_under, level_after, IsEnd, IsRight, StandsFrom}
use Rattle.lx_sheet.proofs.Imports.{cue_numbers, next_decision}
use Rattle.std.proofs.lemmas.Bool.{cases_Bool}
use Rattle.std.proofs.lemmas.Bool.Decides.{nat_tests}
use Rattle.lx_spec.proofs.Lists.{find_both}
use Rattle.lx_spec.proofs.SortedLists.{in_order}
use Rattle.lx_sheet.proofs.Numbers.{count_up_to, count_up_to-map, sorted_numbers}
use Rattle.lx_sheet.proofs.RightRows.{IsOrderOf, column_right, last_right, reached, right_at, right_below}

-- The channel's column was filled in from a place up to another: the rows from there on and those before are as they were, and the others
-- are right where the last one before was.
pub record FillsColumn (channels : ℕ) (order : List Place) (cues : List Cue) (levels filled : List ℕ) (chan first last : ℕ) : Type 0 where
  pub front : (k : ℕ) → k < first → cue_level channels order filled k chan ≡ cue_level channels order levels k chan
  pub back : (k : ℕ) → last ≤ k → k < length cues → cue_level channels order filled k chan ≡ cue_level channels order levels k chan
  pub rows : last_value first (λ k. cue_level channels order levels k chan) ≡ level_after (take first cues) chan → (k : ℕ) → first ≤ k
      → k < last
      → IsRight channels order cues filled k chan

-- a column whose rows up to a place were filled in, and whose rows from there on stood
pub column_filled : {show : Show} {channels : ℕ} {order : List Place} {levels filled : List ℕ} {chan first last : ℕ} (from : ℕ)
    → IsOrderOf show order
    → first ≡ count_under from (cue_numbers show)
    → ((n : ℕ) → n < from → level_by (rows_of channels order levels) n chan ≡ tracked show n chan)
    → ((k : ℕ) → last ≤ k → k < length show.cues
    → level_by (rows_of channels order levels) (get_or (cue_numbers show) k 0) chan ≡ tracked show (get_or (cue_numbers show) k 0) chan)
    → FillsColumn channels order show.cues levels filled chan first last → (n : ℕ) → level_by (rows_of channels order filled) n
    chan ≡ tracked show n chan
column_filled {show} {channels} {order} {levels} {filled} {chan} {first} {last} from is of_first below above fills =
    let stood : (k : ℕ) → k < first → IsRight channels order show.cues levels k chan =
    λ k less. right_below is channels levels chan from k below (omega (arith, of_first, less)) in
    column_right is channels filled chan (λ k within. elim (cases_lt k first) [
      | inl less ↦ fills.front k less ∙ stood k less
      | inr least ↦ elim (cases_lt k last) [
        | inl less ↦ fills.rows (last_right channels order show.cues levels chan first stood) k least less
        | inr past ↦ fills.back k past within ∙ right_at is channels levels chan k within (above k past within)
      ]
    ])

-- it was filled in to its end, where no decision may end it before
pub end_is : (cues : List Cue) (chan from to end : ℕ) → IsEnd cues chan from to to end → end ≡ to
end_is cues chan from to end is = elim (cases_lt end to) [
  | inl less ↦ absurd (omega (arith, less, (is.stops less).least))
  | inr past ↦ omega (arith, past, is.most)
]

up_to_is_under : (n : ℕ) (numbers : List ℕ) → count_up_to n numbers ≡ count_under (n + 1) numbers
up_to_is_under n numbers =
    let same : (m : ℕ) → nat_le m n ≡ nat_lt m (n + 1) = λ m. grind (arith, nat_tests) in
    λ i. length (filter (λ m. same m i) numbers)

-- From the first entry that passes a test on it holds, and so at each that passes it and at those behind.
behind_first : (p : Cue → Bool) (Q : ℕ → Type 0) (xs : List Cue) (k m : ℕ) (d : Cue) → IsStrictlySorted (λ x. x.number) xs → k < length xs
    → p (get_or xs k d) ≡ true → (get_or xs k d).number ≤ m → IfSome (option_map (λ x. x.number) (find p xs)) (λ e. (n : ℕ) → e ≤ n → Q n)
    → Q m
behind_first p Q [] k m d sorted within is low above = absurd (omega arith)
behind_first p Q (x ∷ xs) zero m d sorted within is low above = (rw is at above) m low
behind_first p Q (x ∷ xs) (suc k) m d sorted within is low above = elim (cases_Bool (p x)) [
  | inl here ↦ (rw here at above) m (omega (arith, low, All-from_recursion (λ y. x.number < y.number) xs sorted.0 k d (omega arith)))
  | inr other ↦ behind_first p Q xs k m d sorted.1 (omega arith) is low (rw other at above)
]

-- where it was filled in up to a decision above a number, the sheet stands from there on, if it does from the next one on
pub stands_behind : {c first next to end : ℕ} (show : Show) (sheet : Sheet) (from : ℕ) → IsStrictlySorted (λ x. x.number) show.cues
    → next ≡ length (entries_up_to (λ x. x.number) from show.cues) → to ≡ length show.cues → IsEnd show.cues c first next to end
    → IfSome (next_decision show from c) (λ e. (n : ℕ) → e ≤ n → level_of sheet n c ≡ tracked show n c) → StandsFrom show c end sheet
stands_behind {c} {end = end} show sheet from sorted of_next of_to is above k least within =
    let d : Cue = new_cue 0 in
    let key : Cue → ℕ = λ x. x.number in
    let there : end < length show.cues = omega arith in
    let stops = is.stops (omega (arith, of_to, there)) in
    let number : (j : ℕ) → j < length show.cues → get_or (cue_numbers show) j 0 ≡ (get_or show.cues j d).number = λ j less.
    get_or-map key show.cues j d 0 less in
    let high : from + 1 ≤ (get_or show.cues end d).number = rw (← number end there)
    (reached (from + 1) (cue_numbers show) end (sorted_numbers key show.cues sorted)
    (omega (arith, of_next, count_up_to-map key from show.cues, up_to_is_under from (cue_numbers show), stops.least))
    (omega (arith, there, length-map show.cues key))) in
    let decided : decides (get_or show.cues end d) c ≡ true =
    rw (slice_get-get_or show.cues end d there) at stops.decides in
    rw (number k within) (behind_first (λ x. nat_lt from x.number && decides x c) (λ n. level_of sheet n c ≡ tracked show n c) show.cues end
    (get_or show.cues k d).number d sorted there (rw (lt_true from (get_or show.cues end d).number (omega (arith, high))) decided)
    (in_order key show.cues sorted end k d least within)
    (subst (λ (o : Option Cue). IfSome (option_map key o) (λ e. (n : ℕ) → e ≤ n → level_of sheet n c ≡ tracked show n c))
    (find_both (λ (x : Cue). nat_lt from x.number) (λ (x : Cue). decides x c) show.cues) above))
