-- Rows that hold the levels after the cues up to theirs, and the columns of a sheet that stands for a show.
use Rattle.lx_sheet.proofs.Imports.{◌≡◌, ℕ, zero, suc, ◌+◌, ◌<◌, ◌≤◌, List, [], ◌∷◌, length, get_or, take, Marks, numbers_of, map, ◌∙◌, sym, ap}
use Rattle.lx_sheet.proofs.Imports.{get_or_default, refl, stands_where, subst, arith, inl, inr, Option, Some, None, IfSome, nat_le, option_map_or}
use Rattle.lx_sheet.proofs.Imports.{AllByRecursion, cases_lt, length-map, All-from_recursion, IsStrictlySorted, Cue, Show, decides, tracked, lt_false}
use Rattle.lx_sheet.proofs.Imports.{lt_true, each, filter_none, find_both_last, Place, Sheet, level_by, level_of, rows_of, cue_level, last_value}
use Rattle.lx_sheet.proofs.Imports.{count_under, IsRight, RowsFollow, StandsFrom, cue_numbers, cases_eq}
use Rattle.lx_sheet.specs.After.{level_after}
use Rattle.std.specs.Prelude.{◌⊎◌}
use Rattle.lx_sheet.proofs.Numbers.{count_there, count_up_to, count_within, count_under_within, same_length, sorted_alike, sorted_numbers}
use Rattle.lx_sheet.proofs.Rows.{up_to_is_front, level_of_block, numbers-rows_of, sheet_of}
use Rattle.lx_sheet.proofs.LevelsAfter.{level_after-nil}

-- the tracked level follows from the cues up to the number
pub tracked_is : (show : Show) (n c : ℕ) → IsStrictlySorted (λ cue. cue.number) show.cues
    → tracked show n c ≡ level_after (take (count_up_to n (cue_numbers show)) show.cues) c
unfolding level_after
tracked_is show n c sorted =
    rw (
      ← find_both_last (λ (cue : Cue). nat_le cue.number n) (λ (cue : Cue). decides cue c) show.cues,
      up_to_is_front
          (λ (cue : Cue). cue.number) n show.cues sorted,
    )

-- up to the number at a place there are that many and one
count_at : (numbers : List ℕ) (k : ℕ) → IsStrictlySorted (λ n. n) numbers → k < length numbers
    → count_up_to (get_or numbers k 0) numbers ≡ suc k
count_at numbers k sorted within =
    let n : ℕ = get_or numbers k 0 in
    let stands = stands_where (λ m. m) n numbers k n sorted within (get_or_default numbers k 0 n within) refl in
    omega (arith, count_there sorted stands)

none_under : (end m : ℕ) (ms : List ℕ) → AllByRecursion (λ y. m < y) ms → end ≤ m → count_under end ms ≡ 0
none_under end m ms above high = ap length (filter_none _ ms (each _ _ ms (λ y h. lt_false y end (omega arith)) above))

-- A number at a place is below another exactly if more are than stand before it.
under : (end : ℕ) (numbers : List ℕ) (k : ℕ) → IsStrictlySorted (λ n. n) numbers → k < length numbers
    → (get_or numbers k 0 < end) × (k < count_under end numbers) ⊎ (end ≤ get_or numbers k 0) × (count_under end numbers ≤ k)
under end [] k sorted within = absurd (omega arith)
under end (m ∷ ms) zero sorted within = elim (cases_lt m end) [
  | inl low ↦ rw (lt_true m end low) (inl (low, omega arith))
  | inr high ↦ rw (lt_false m end high) (inr (high, omega (arith, none_under end m ms sorted.0 high)))
]
under end (m ∷ ms) (suc k) sorted within = elim (cases_lt m end) [
  | inl low ↦ rw (lt_true m end low) (elim (under end ms k sorted.1 (omega arith)) [
    | inl less ↦ inl (less.0, omega (arith, less.1))
    | inr more ↦ inr (more.0, omega (arith, more.1))
  ])
  | inr high ↦ rw (lt_false m end high)
      (inr (omega (arith, All-from_recursion (λ y. m < y) ms sorted.0 k 0 (omega arith)), omega (arith, none_under end m ms sorted.0 high)))
]

pub reached : (end : ℕ) (numbers : List ℕ) (k : ℕ) → IsStrictlySorted (λ n. n) numbers → count_under end numbers ≤ k → k < length numbers
    → end ≤ get_or numbers k 0
reached end numbers k sorted least within = omega (arith, under end numbers k sorted within)

not_reached : (end : ℕ) (numbers : List ℕ) (k : ℕ) → IsStrictlySorted (λ n. n) numbers → k < count_under end numbers
    → get_or numbers k 0 < end
not_reached end numbers k sorted less = omega (arith, under end numbers k sorted (omega (arith, count_under_within end numbers)))

-- an order of a show's cues
pub record IsOrderOf (show : Show) (order : List Place) : Type 0 where
  pub sorted : IsStrictlySorted (λ p. p.cue) order
  pub cues_sorted : IsStrictlySorted (λ cue. cue.number) show.cues
  pub numbers : map (λ p. p.cue) order ≡ cue_numbers show

pub order_length : {show : Show} {order : List Place} → IsOrderOf show order → length order ≡ length show.cues
order_length {show} {order} is = same_length (λ (p : Place). p.cue) (λ (cue : Cue). cue.number) order show.cues is.numbers

-- the last of some rows that are right has the levels after their cues
pub last_right : (channels : ℕ) (order : List Place) (cues : List Cue) (levels : List ℕ) (c count : ℕ)
    → ((k : ℕ) → k < count → IsRight channels order cues levels k c)
    → last_value count (λ k. cue_level channels order levels k c) ≡ level_after (take count cues) c
last_right channels order cues levels c zero right = sym (level_after-nil c)
last_right channels order cues levels c (suc k) right =
    let next : k + 1 ≡ suc k = omega arith in
    right k (omega arith) ∙ ap (λ j. level_after (take j cues) c) next

module _ {show : Show} {order : List Place} (is : IsOrderOf show order) (channels : ℕ) (levels : List ℕ) (c : ℕ) where
  level_is : (n : ℕ) → level_by (rows_of channels order levels) n c
      ≡ last_value (count_up_to n (cue_numbers show)) (λ k. cue_level channels order levels k c)
  level_is n = level_of_block channels order levels n c is.sorted
      ∙ ap (λ (ns : List ℕ). last_value (count_up_to n ns) (λ k. cue_level channels order levels k c)) is.numbers

  -- a row is right where the sheet gives the tracked level at the number of its cue
  pub right_at : (k : ℕ) → k < length show.cues
      → level_by (rows_of channels order levels) (get_or (cue_numbers show) k 0) c ≡ tracked show (get_or (cue_numbers show) k 0) c
      → IsRight channels order show.cues levels k c
  right_at k within right =
      let all : List ℕ = cue_numbers show in
      let n : ℕ = get_or all k 0 in
      let count : count_up_to n all ≡ suc k = count_at all k (sorted_numbers (λ (cue : Cue). cue.number) show.cues is.cues_sorted)
      (omega (arith, length-map show.cues (λ (cue : Cue). cue.number), within)) in
      let next : suc k ≡ k + 1 = omega arith in
      ap (λ j. last_value j (λ i. cue_level channels order levels i c)) (sym count) ∙ sym (level_is n) ∙ right
      ∙ tracked_is show n c is.cues_sorted ∙ ap (λ j. level_after (take j show.cues) c) (count ∙ next)

  -- where a sheet stands for a show below a number, the rows of the cues there are right
  pub right_below : (from k : ℕ) → ((n : ℕ) → n < from → level_by (rows_of channels order levels) n c ≡ tracked show n c)
      → k < count_under from (cue_numbers show) → IsRight channels order show.cues levels k c
  right_below from k right less =
      right_at k (omega (arith, length-map show.cues (λ (cue : Cue). cue.number), less, count_under_within from (cue_numbers show)))
      (right (get_or (cue_numbers show) k 0) (not_reached from (cue_numbers show) k
      (sorted_numbers (λ (cue : Cue). cue.number) show.cues is.cues_sorted) less))

  -- where each row is right, the column stands for the show
  pub column_right : ((k : ℕ) → k < length show.cues → IsRight channels order show.cues levels k c)
      → (n : ℕ) → level_by (rows_of channels order levels) n c ≡ tracked show n c
  column_right right n =
      let within : count_up_to n (cue_numbers show) ≤ length show.cues =
      omega (arith, count_within n (cue_numbers show), length-map show.cues (λ (cue : Cue). cue.number)) in
      level_is n ∙ last_right channels order show.cues levels c (count_up_to n (cue_numbers show))
      (λ k less. right k (omega (arith, within, less)))
      ∙ sym (tracked_is show n c is.cues_sorted)

-- how many cues are below the number, or all
abbrev pub until : Option ℕ → List Cue → ℕ
until to cues = option_map_or (λ end. count_under end (map (λ cue. cue.number) cues)) to (length cues)

pub last_within : (to : Option ℕ) (cues : List Cue) (last : ℕ) → last ≡ until to cues → last ≤ length cues
last_within None cues last is = omega (arith, is)
last_within (Some end) cues last is = omega
    (arith, is, count_under_within end (map (λ (cue : Cue). cue.number) cues), length-map cues (λ (cue : Cue). cue.number))

-- where a sheet stands for a show from a number on, it does so at the cues from there on
pub stands_from : (show : Show) (sheet : Sheet) (to : Option ℕ) (c place : ℕ) → IsStrictlySorted (λ cue. cue.number) show.cues
    → place ≡ until to show.cues → IfSome to (λ end. (n : ℕ) → end ≤ n → level_of sheet n c ≡ tracked show n c)
    → StandsFrom show c place sheet
stands_from show sheet None c place sorted is above k least within = absurd (omega (arith, is, least, within))
stands_from show sheet (Some to) c place sorted is above k least within =
    above (get_or (cue_numbers show) k 0) (reached to (cue_numbers show) k (sorted_numbers (λ (cue : Cue). cue.number) show.cues sorted)
    (omega (arith, is, least)) (omega (arith, within, length-map show.cues (λ (cue : Cue). cue.number))))

-- from a row that is right on, rows that follow are
pub right_on : (channels : ℕ) (order : List Place) (cues : List Cue) (levels : List ℕ) (from at c : ℕ)
    → RowsFollow channels order cues levels from → from ≤ at → IsRight channels order cues levels at c
    → (k : ℕ) → at ≤ k → k < length cues → IsRight channels order cues levels k c
right_on channels order cues levels from at c follows least right zero past within =
    let here : at ≡ 0 = omega arith in subst (λ k. IsRight channels order cues levels k c) here right
right_on channels order cues levels from at c follows least right (suc k) past within = elim (cases_eq at (suc k)) [
  | inl here ↦ subst (λ k. IsRight channels order cues levels k c) here right
  | inr apart ↦
      let next : k + 1 ≡ suc k = omega arith in
      subst (λ j. IsRight channels order cues levels j c) next
      (follows k c (omega arith) (omega arith) (right_on channels order cues levels from at c follows least right k (omega arith)
      (omega arith)))
]

-- a sheet that has a show's numbers has its cues in order
pub order_of : (show : Show) {channels : ℕ} {order : List Place} (levels : List ℕ) (marks : Marks) {sheet : Sheet}
    → sheet_of channels order levels marks ≡ sheet → IsStrictlySorted (λ p. p.cue) order → numbers_of sheet ≡ cue_numbers show
    → IsOrderOf show order
order_of show {channels} {order} levels marks seen sorted same =
    let numbers : map (λ (p : Place). p.cue) order ≡ cue_numbers show =
    sym (numbers-rows_of channels order levels) ∙ ap numbers_of seen ∙ same in record {
      sorted = sorted;
      cues_sorted = sorted_alike (λ (p : Place). p.cue) (λ (cue : Cue). cue.number) order show.cues numbers sorted;
      numbers = numbers;
    }
