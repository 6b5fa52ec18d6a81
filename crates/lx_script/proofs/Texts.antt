-- Words with spaces between them, and the cells of levels, as they are put one after another.
use Rattle.lx_script.proofs.Imports.{◌≡◌, ℕ, ◌+◌, ◌-◌, ◌<◌, ◌≤◌, List, [], ◌∷◌, ◌++◌, length, take, drop, get_or, refl, sym}
use Rattle.lx_script.proofs.Imports.{ap, ◌∙◌, append-nil, append_assoc, take-append-drop, arith, length-take, inl, inr, cases_Bool, take-take, take_more}
use Rattle.lx_script.proofs.Imports.{Bool, true, false, suc, ◌==◌, flat_map, codes, decimal, slice_range, if◌then◌else◌, enumerate_from, cell_text}
use Rattle.lx_script.proofs.Imports.{cells_from, cells, frame_text}
use Rattle.std.proofs.Math.Seq.{take-add, take-append-add}
use Rattle.std.proofs.lemmas.Grind.{flat_map-append}
use Rattle.lx_spec.proofs.Comparisons.{eq_other}
use Rattle.lx_spec.specs.ShowText.{spaced}

-- words, each behind a space
abbrev pub behind_spaces : List (List ℕ) → List ℕ
behind_spaces words = flat_map (λ word. 32 ∷ word) words

pub spaced_more : (word : List ℕ) (words : List (List ℕ)) → spaced (word ∷ words) ≡ word ++ behind_spaces words
spaced_more word [] = sym (append-nil word)
spaced_more word (next ∷ words) = ap (λ text. word ++ 32 ∷ text) (spaced_more next words)

one_word : (none : Bool) (word : List ℕ) → behind_spaces (if none then [] else word ∷ []) ≡ (if none then [] else 32 ∷ word)
one_word true word = refl
one_word false word = append-nil (32 ∷ word)

cells_from-first : (number level : ℕ) (levels : List ℕ)
    → cells_from number (level ∷ levels) ≡ cell_text number level ++ cells_from (number + 1) levels
cells_from-first number level levels =
    let word : List ℕ = decimal number ++ 61 ∷ decimal level in
    flat_map-append (λ w. 32 ∷ w) (if level == 0 then [] else word ∷ [])
    (flat_map (λ e. if e.1 == 0 then [] else (decimal e.0 ++ 61 ∷ decimal e.1) ∷ []) (enumerate_from (number + 1) levels))
    ∙ ap (λ text. text ++ cells_from (number + 1) levels) (one_word (level == 0) word)

cells_from-append : (number : ℕ) (xs ys : List ℕ)
    → cells_from number (xs ++ ys) ≡ cells_from number xs ++ cells_from (number + length xs) ys
cells_from-append number [] ys = let same : number ≡ number + 0 = omega arith in ap (λ n. cells_from n ys) same
cells_from-append number (x ∷ xs) ys =
    let same : number + 1 + length xs ≡ number + suc (length xs) = omega arith in
    cells_from-first number x (xs ++ ys)
    ∙ ap (λ text. cell_text number x ++ text) (cells_from-append (number + 1) xs ys)
    ∙ sym (append_assoc (cell_text number x) (cells_from (number + 1) xs) (cells_from (number + 1 + length xs) ys))
    ∙ ap (λ text. text ++ cells_from (number + 1 + length xs) ys) (sym (cells_from-first number x xs))
    ∙ ap (λ n. cells_from number (x ∷ xs) ++ cells_from n ys) same

-- the cell of a level that isn't 0, as it is put
pub cell_of : (number level : ℕ) → (level ≡ 0 → ⊥) → 32 ∷ ((decimal number ++ 61 ∷ []) ++ decimal level) ≡ cell_text number level
cell_of number level some = rw (eq_other level 0 some, append_assoc) refl

-- the cells before a place, and those from it on
pub cells_split : (levels : List ℕ) (from : ℕ) → from ≤ length levels
    → behind_spaces (cells levels) ≡ behind_spaces (cells (take from levels)) ++ cells_from (from + 1) (drop from levels)
cells_split levels from within =
    let number : 1 + length (take from levels) ≡ from + 1 = omega (arith, length-take from levels) in
    ap (cells_from 1) (sym (take-append-drop from levels))
    ∙ cells_from-append 1 (take from levels) (drop from levels)
    ∙ ap (λ n. cells_from 1 (take from levels) ++ cells_from n (drop from levels)) number

-- a piece more
pub cells_more : (levels : List ℕ) (from end : ℕ) → from ≤ end → end ≤ length levels
    → behind_spaces (cells (take end levels))
    ≡ behind_spaces (cells (take from levels)) ++ cells_from (from + 1) (slice_range levels from end)
cells_more levels from end before within =
    let number : 1 + length (take from levels) ≡ from + 1 = omega (arith, length-take from levels) in
    let same : end ≡ from + (end - from) = omega arith in
    ap (λ n. cells_from 1 (take n levels)) same
    ∙ ap (cells_from 1) (take-add from (end - from) levels)
    ∙ cells_from-append 1 (take from levels) (slice_range levels from end)
    ∙ ap (λ n. cells_from 1 (take from levels) ++ cells_from n (slice_range levels from end)) number

-- the cell of a level more
pub cells_next : (number at : ℕ) (levels : List ℕ) → at < length levels
    → cells_from number (take (at + 1) levels) ≡ cells_from number (take at levels) ++ cell_text (number + at) (get_or levels at 0)
cells_next number at levels lt =
    let level : ℕ = get_or levels at 0 in
    let here : take (at + 1) levels ≡ take at levels ++ level ∷ [] = take_more levels at 0 lt in
    let count : number + length (take at levels) ≡ number + at = omega (arith, length-take at levels) in
    ap (cells_from number) here ∙ cells_from-append number (take at levels) (level ∷ [])
    ∙ ap (λ n. cells_from number (take at levels) ++ cells_from n (level ∷ [])) count
    ∙ ap (λ text. cells_from number (take at levels) ++ text)
    (cells_from-first (number + at) level [] ∙ append-nil (cell_text (number + at) level))

-- what was written behind the first bytes, as far as it is wanted
pub front_of : (end at count : ℕ) (old new row : List ℕ) → at ≤ length old → at + count ≤ end → take end new ≡ take at old ++ row
    → take (at + count) new ≡ take at old ++ take count row
front_of end at count old new row within fits is =
    let same : length (take at old) ≡ at = omega (arith, length-take at old) in
    sym (take-take (at + count) end new fits) ∙ ap (take (at + count)) is ∙ ap (λ n. take (n + count) (take at old ++ row)) (sym same)
    ∙ take-append-add (take at old) row count

-- the cell of a level, of which nothing is wanted where it is 0
pub cell_is : (number level width at count : ℕ) (old new : List ℕ) → at ≤ length old
    → take (at + width + (length (decimal level) + 1)) new ≡ take at old ++ (32 ∷ (decimal number ++ 61 ∷ decimal level))
    → count ≡ (if level == 0 then 0 else width + (length (decimal level) + 1))
    → take (at + count) new ≡ take at old ++ cell_text number level
cell_is number level width at count old new within put is =
    let end : ℕ = at + width + (length (decimal level) + 1) in
    let choice : Bool → ℕ = λ b. if b then 0 else width + (length (decimal level) + 1) in
    elim (cases_Bool (level == 0)) [
      | inl zero ↦
          let none : count ≡ 0 = is ∙ ap choice zero in
          rw (none, zero) (front_of end at 0 old new (32 ∷ (decimal number ++ 61 ∷ decimal level)) within (omega arith) put)
      | inr some ↦
          let whole : count ≡ width + (length (decimal level) + 1) = is ∙ ap choice some in
          let all : at + count ≡ end = omega arith in
          rw (all, some) put
    ]

-- the words before the slots
abbrev pub head : List (List ℕ) → ℕ → ℕ → List ℕ
head count m u = codes "frame" ++ (behind_spaces count ++ (32 ∷ decimal m ++ 32 ∷ decimal u))

-- the same, as they are put
pub head_is : (count : List (List ℕ)) (m u : ℕ)
    → (codes "frame" ++ (behind_spaces count ++ 32 ∷ [])) ++ ((decimal m ++ 32 ∷ []) ++ decimal u) ≡ head count m u
head_is count m u = simp append_assoc

-- these words, the slots, and the end of the line
pub frame_is : (count : List (List ℕ)) (m u : ℕ) (slots : List ℕ)
    → frame_text count m u slots ≡ head count m u ++ (behind_spaces (cells slots) ++ 10 ∷ [])
frame_is count m u slots =
    ap (λ text. text ++ 10 ∷ []) (spaced_more (codes "frame") (count ++ decimal m ∷ decimal u ∷ cells slots))
    ∙ ap (λ text. (codes "frame" ++ text) ++ 10 ∷ []) (flat_map-append (λ w. 32 ∷ w) count (decimal m ∷ decimal u ∷ cells slots))
    ∙ (simp append_assoc)
