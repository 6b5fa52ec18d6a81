-- The words of marks, each at its place, and the bits that are set in them.
use Rattle.lx_sheet.proofs.Imports.{◌≡◌, ℕ, suc, ◌+◌, ◌*◌, ◌/◌, ◌%◌, ◌<◌, ◌≤◌, true, List, [], ◌∷◌, length, map, get_or, set, subst, inl, inr, arith}
use Rattle.lx_sheet.proofs.Imports.{bit_or, bit_at, cases_eq, false≢true, get_or-map, get_or-set_same, get_or-set_other, length-map, All, All-map}
use Rattle.lx_sheet.proofs.Imports.{bit_at_or, bit_at-lt, Move, InRange, IsStrictlySorted, has_entry, eq_other, bit_of, chan_at, group_of, row_bit}
use Rattle.lx_sheet.proofs.Imports.{word_place}
use Rattle.std.proofs.lemmas.Nat.{same_from_place}
use Rattle.lx_spec.proofs.SortedLists.{in_order}
use Rattle.lx_sheet.proofs.Numbers.{sorted_numbers}

-- two places are one only at one row and group
pub places_differ : (groups r q g h : ℕ) → g < groups → h < groups → word_place groups r g ≡ word_place groups q h → (r ≡ q) × (g ≡ h)
places_differ groups r q g h low high same =
    let tile = same_from_place (r / 64 * groups + g) (r % 64) (q / 64 * groups + h) (q % 64) 64 (omega arith) (omega arith) same in
    let word = same_from_place (r / 64) g (q / 64) h groups low high tile.0 in
    (omega (arith, tile.1, word.0), word.1)

pub place_within : (groups row group n : ℕ) → group < groups → (row / 64 + 1) * groups * 64 ≤ n → word_place groups row group < n
place_within groups row group n low reach = omega (arith, low, reach)

-- a word that is written leaves the others
pub word_other : (groups : ℕ) (words : List ℕ) (row group word r g : ℕ) → group < groups → g < groups → (r ≡ row → g ≡ group → ⊥)
    → get_or (set words (word_place groups row group) word) (word_place groups r g) 0 ≡ get_or words (word_place groups r g) 0
word_other groups words row group word r g within low other =
    get_or-set_other words (word_place groups row group) (word_place groups r g) word 0
    (λ same. let both = places_differ groups r row g group low within same in other both.0 both.1)

-- what is set in one of two words is set in both together
pub bit_left : (a b i : ℕ) → bit_at a i ≡ 1 → bit_at (bit_or a b) i ≡ 1
bit_left a b i is = omega (arith, bit_at_or a b i, bit_at-lt b i, is)

pub bit_right : (a b i : ℕ) → bit_at b i ≡ 1 → bit_at (bit_or a b) i ≡ 1
bit_right a b i is = omega (arith, bit_at_or a b i, bit_at-lt a i, is)

-- bits that are added to a word of the row leave those that are set
pub bit_kept : (groups : ℕ) (words : List ℕ) (row group bits c : ℕ) → group < groups → (row / 64 + 1) * groups * 64 ≤ length words
    → group_of c < groups → row_bit groups words row c ≡ 1
    → row_bit groups (set words (word_place groups row group) (bit_or (get_or words (word_place groups row group) 0) bits)) row c ≡ 1
bit_kept groups words row group bits c within reach low is =
    let word : ℕ = bit_or (get_or words (word_place groups row group) 0) bits in
    elim (cases_eq (group_of c) group) [
      | inl here ↦
          rw (here, get_or-set_same words (word_place groups row group) word 0 (place_within groups row group (length words) within reach))
          (bit_left (get_or words (word_place groups row group) 0) bits (bit_of c) (rw here at is))
      | inr apart ↦ rw (word_other groups words row group word row (group_of c) within low (λ _ e. apart e)) is
    ]

-- and set those
pub bit_added : (groups : ℕ) (words : List ℕ) (row group bits c : ℕ) → group < groups → (row / 64 + 1) * groups * 64 ≤ length words
    → group_of c ≡ group → bit_at bits (bit_of c) ≡ 1
    → row_bit groups (set words (word_place groups row group) (bit_or (get_or words (word_place groups row group) 0) bits)) row c ≡ 1
bit_added groups words row group bits c within reach here is =
    let word : ℕ = bit_or (get_or words (word_place groups row group) 0) bits in
    rw (here, get_or-set_same words (word_place groups row group) word 0 (place_within groups row group (length words) within reach))
    (bit_right (get_or words (word_place groups row group) 0) bits (bit_of c) is)

-- the channel of the move that is read at an index
pub chan_is : (moves : List Move) (k : ℕ) (m : Move) → k < length moves → chan_at moves k ≡ (get_or moves k m).chan
chan_is moves k m within = get_or-map (λ (x : Move). x.chan) moves k m 0 within

-- what is true of each move's channel is so of that at an index
pub chan_has : (P : ℕ → Type 0) (moves : List Move) (k : ℕ) → k < length moves → All (λ m. P m.chan) moves → P (chan_at moves k)
chan_has P moves k within all =
    All-map P (λ (m : Move). m.chan) moves all k 0 (omega (arith, length-map moves (λ (m : Move). m.chan)))

-- the group of a move's channel is among those of the row
pub group_within : (groups k : ℕ) (moves : List Move) → k < length moves → All (λ m. InRange (64 * groups) m.chan) moves
    → group_of (chan_at moves k) < groups
group_within groups k moves within all =
    let range : InRange (64 * groups) (chan_at moves k) = chan_has (InRange (64 * groups)) moves k within all in
    omega (arith, range.least, range.most)

-- the channels of moves rise
never_above : (moves : List Move) (i k : ℕ) → IsStrictlySorted (λ m. m.chan) moves → i ≤ k → k < length moves
    → chan_at moves i ≤ chan_at moves k
never_above moves i k sorted le within = in_order (λ n. n) (map (λ (m : Move). m.chan) moves)
    (sorted_numbers (λ (m : Move). m.chan) moves sorted) i k 0 le (omega (arith, length-map moves (λ (m : Move). m.chan)))

-- moves between two of one group are in it
pub same_group : (moves : List Move) (i k j : ℕ) → IsStrictlySorted (λ m. m.chan) moves → i ≤ k → k ≤ j → j < length moves
    → group_of (chan_at moves j) ≡ group_of (chan_at moves i) → group_of (chan_at moves k) ≡ group_of (chan_at moves i)
same_group moves i k j sorted low high within same = omega
    (arith, same, never_above moves i k sorted low (omega arith), never_above moves k j sorted high within)

-- each channel that the moves have is among theirs
pub chan_found : (P : ℕ → Type 0) (moves : List Move) (c : ℕ) → ((k : ℕ) → k < length moves → P (chan_at moves k))
    → has_entry (λ m. m.chan) c moves ≡ true → P c
chan_found P [] c each some = absurd (false≢true some)
chan_found P (m ∷ moves) c each some = elim (cases_eq m.chan c) [
  | inl here ↦ subst P here (each 0 (omega arith))
  | inr other ↦ chan_found P moves c (λ k within. each (suc k) (omega (arith, within))) (rw (eq_other m.chan c other) at some)
]
