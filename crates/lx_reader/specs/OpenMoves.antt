-- The levels of a record, as moves by channel.
use Rattle.std.specs.Prelude.{ℕ, ◌≡◌, ◌+◌, ◌<◌, Bool, List, [], ◌∷◌, IfSome, fold, length, map, max, slice_get, if◌then◌else◌}
use Rattle.std.specs.List.{AllByRecursion}
use Rattle.lx_base.specs.declared.TheConstants.{CHANNELS}
use Rattle.lx_spec.specs.declared.Member.{Member}
use Rattle.lx_spec.specs.declared.Move.{Move}
use Rattle.lx_spec.specs.Show.{ValidMember}
use Rattle.lx_spec.specs.SortedList.{all_placed}
use Rattle.lx_reader.specs.FieldLists.{all_pairs, onto}
use Rattle.lx_reader.specs.ReadingState.{moves_of}

-- the moves that are there
abbrev pub moves_there : List Move → List Bool → List Move
moves_there [] flags = []
moves_there (m ∷ moves) [] = []
moves_there (m ∷ moves) (there ∷ flags) = if there then m ∷ moves_there moves flags else moves_there moves flags

-- the moves are those of the channels from this one on, in turn
abbrev pub AreNumbered : ℕ → List Move → Type 0
AreNumbered c moves = (k : ℕ) → k < length moves → IfSome (slice_get moves k) (λ m. m.chan ≡ c + k)

-- a row has a place for each channel, with its move
pub record IsRow (moves : List Move) (flags : List Bool) : Type 0 where
  pub all : length moves ≡ CHANNELS
  pub long : length flags ≡ CHANNELS
  pub numbered : AreNumbered 1 moves

-- The levels at the front of a line were put into moves, in a part. The tokens behind them are the rest, and the greatest of their
-- channels and of a number is known.
pub record ReadsLevels (i part least : ℕ) (all rest : List (List ℕ)) (greatest : ℕ) (old new : List Move) : Type 0 where
  pub members : List Member
  pub list : all_pairs i all ≡ onto members (all_pairs i rest)
  pub valid : AllByRecursion (ValidMember CHANNELS) members
  pub placed : new ≡ all_placed (λ m. m.chan) (moves_of part members) old
  pub is_greatest : greatest ≡ fold max least (map (λ m. m.chan) members)

-- the levels of moves
abbrev pub members_of : List Move → List Member
members_of moves = map (λ m. record { chan = m.chan; level = m.level }) moves
