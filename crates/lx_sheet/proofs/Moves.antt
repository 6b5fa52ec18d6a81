-- The moves of a cue placed one after another.
use Rattle.lx_sheet.proofs.Imports.{◌≡◌, ℕ, zero, suc, ◌+◌, ◌-◌, ◌<◌, ◌≤◌, List, [], ◌∷◌, length, get_or, set, drop, ◌∙◌, sym, ap, inl, inr, arith}
use Rattle.lx_sheet.proofs.Imports.{subst, AllByRecursion, option_map_or, cases_eq, drop_more, Move, InRange, IsStrictlySorted, entry_at}
use Rattle.lx_sheet.proofs.Imports.{level_in_look, eq_above, eq_other, eq_true, each, find_none, IsStrictlySorted-drop}
use Rattle.lx_sheet.proofs.Cells.{level_in_look-set, level_in_look-other}

-- the level that the moves set, or the one before
abbrev pub level_placed : List Move → ℕ → ℕ → ℕ
level_placed moves c before = option_map_or (λ m. m.level) (entry_at (λ m. m.chan) c moves) before

-- one move more is placed: what those behind it make of the levels is the same as before
pub move_placed : (moves : List Move) (look before : List ℕ) (i chan : ℕ) (m : Move) → IsStrictlySorted (λ x. x.chan) moves
    → i < length moves → m ≡ get_or moves i m → chan ≡ m.chan → 1 ≤ chan → chan ≤ length look
    → ((c : ℕ) → level_placed (drop i moves) c (level_in_look look c) ≡ level_placed moves c (level_in_look before c)) → (c : ℕ)
    → level_placed (drop (i + 1) moves) c (level_in_look (set look (chan - 1) m.level) c) ≡ level_placed moves c (level_in_look before c)
move_placed moves look before i chan m sorted within is same least most placed c =
    let rest = drop (i + 1) moves in
    let seam : drop i moves ≡ m ∷ rest = drop_more moves i m within ∙ ap (λ (x : Move). x ∷ rest) (sym is) in
    let rising : IsStrictlySorted (λ (x : Move). x.chan) (m ∷ rest) =
    subst (IsStrictlySorted (λ (x : Move). x.chan)) seam (IsStrictlySorted-drop (λ (x : Move). x.chan) i moves sorted) in
    elim (cases_eq c chan) [
      | inl here ↦ rw (find_none _ rest (each _ _ rest (λ y h. eq_above y.chan c (omega (arith, h, same, here))) rising.0))
          (level_in_look-set look chan c m.level least most here ∙ (rw (seam, eq_true m.chan c (sym same ∙ sym here)) at (placed c)))
      | inr other ↦ rw (level_in_look-other look chan c m.level least other)
          (rw (seam, eq_other m.chan c (λ e. other (sym (same ∙ e)))) at (placed c))
    ]

-- sorted moves of channels above one and up to another are no more than there are channels between
few_moves : (moves : List Move) (c top : ℕ) → c ≤ top → IsStrictlySorted (λ m. m.chan) moves → AllByRecursion (λ m. c < m.chan) moves
    → AllByRecursion (λ m. m.chan ≤ top) moves → c + length moves ≤ top
few_moves [] c top least sorted above below = omega arith
few_moves (m ∷ moves) c top least sorted above below =
    omega (arith, above.0, few_moves moves m.chan top below.0 sorted.1 sorted.0 below.1)

first_chan : (m : Move) (moves : List Move) (c : ℕ) → IsStrictlySorted (λ x. x.chan) (m ∷ moves) → c < m.chan
    → AllByRecursion (λ x. x.chan ≤ c + length (m ∷ moves)) (m ∷ moves) → m.chan ≡ c + 1
first_chan m moves c sorted above below =
    omega (arith, above, few_moves moves m.chan (c + length (m ∷ moves)) below.0 sorted.1 sorted.0 below.1)

-- where they are as many, they are of one channel after another
chan_at_place : (moves : List Move) (c i : ℕ) (d : Move) → IsStrictlySorted (λ m. m.chan) moves → AllByRecursion (λ m. c < m.chan) moves
    → AllByRecursion (λ m. m.chan ≤ c + length moves) moves → i < length moves → (get_or moves i d).chan ≡ c + i + 1
chan_at_place [] c i d sorted above below within = absurd (omega arith)
chan_at_place (m ∷ moves) c zero d sorted above below within = omega (arith, first_chan m moves c sorted above.0 below)
chan_at_place (m ∷ moves) c (suc i) d sorted above below within =
    let first : m.chan ≡ c + 1 = first_chan m moves c sorted above.0 below in
    let top : c + length (m ∷ moves) ≡ m.chan + length moves = omega arith in
    let low = subst (λ n. AllByRecursion (λ x. x.chan ≤ n) moves) top below.1 in
    omega (arith, first, chan_at_place moves m.chan i d sorted.1 sorted.0 low (omega arith))

-- each channel has a move: that at a place is the next channel's
pub whole_row : (moves : List Move) (channels i : ℕ) (m : Move) → IsStrictlySorted (λ x. x.chan) moves
    → AllByRecursion (λ x. InRange channels x.chan) moves → length moves ≡ channels → i < length moves → m ≡ get_or moves i m
    → i + 1 ≡ m.chan
whole_row moves channels i m sorted within whole less is =
    omega (
      arith,
      ap (λ (x : Move). x.chan) is,
      chan_at_place moves 0 i m sorted
          (each _ (λ x. 0 < x.chan) moves (λ x h. omega (arith, h.least)) within)
          (each _ (λ x. x.chan ≤ 0 + length moves) moves (λ x h. omega (arith, h.most, whole)) within) less,
    )
