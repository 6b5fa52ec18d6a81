-- Where the words of marks stand: one for each row and each 64 channels, a bit a channel. The words of 64 rows stand side by side.
use Rattle.std.specs.Prelude.{◌≡◌, ℕ, ◌+◌, ◌-◌, ◌*◌, ◌/◌, ◌%◌, List, map, min, slice_index}
use Rattle.std.specs.Int.{bit_at}
use Rattle.std.specs.List.{All}
use Rattle.lx_spec.specs.declared.Move.{Move}
use Rattle.lx_spec.specs.SortedList.{IsStrictlySorted}
use Rattle.lx_spec.specs.Show.{Cue, InRange}

-- which group of 64 channels the channel is in, and its bit there
abbrev pub group_of : ℕ → ℕ
group_of c = (c - 1) / 64

abbrev pub bit_of : ℕ → ℕ
bit_of c = (c - 1) % 64

-- where the word of a row and a group stands
abbrev pub word_place : ℕ → ℕ → ℕ → ℕ
word_place groups row group = (row / 64 * groups + group) * 64 + row % 64

-- how many words there are for this many rows
abbrev pub words_over : ℕ → ℕ → ℕ
words_over rows groups = (rows / 64 + min 1 (rows % 64)) * groups * 64

-- the bit of a row and a channel, among these words
abbrev pub row_bit : ℕ → List ℕ → ℕ → ℕ → ℕ
row_bit groups words row c = bit_at (slice_index words (word_place groups row (group_of c))) (bit_of c)

-- the cue's moves are sorted, and within this many channels
pub record MovesWithin (channels : ℕ) (cue : Cue) : Type 0 where
  pub each : All (λ m. InRange channels m.chan) cue.moves
  pub sorted : IsStrictlySorted (λ m. m.chan) cue.moves

-- the channel of the move at an index
abbrev pub chan_at : List Move → ℕ → ℕ
chan_at moves k = slice_index (map (λ m. m.chan) moves) k

-- the move at an index is in the group of the one at another, and has its bit among these
pub record IsBitOf (moves : List Move) (from bits k : ℕ) : Type 0 where
  pub group : group_of (chan_at moves k) ≡ group_of (chan_at moves from)
  pub bit : bit_at bits (bit_of (chan_at moves k)) ≡ 1
