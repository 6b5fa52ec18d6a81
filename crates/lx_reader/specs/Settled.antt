-- A reader whose open record is kept apart.
use Rattle.std.specs.Prelude.{◌≡◌, ◌||◌, ℕ, Bool, true, false, List, [], length, nat_lt, IsTrue}
use Rattle.std.specs.List.{AllByRecursion}
use Rattle.lx_base.specs.declared.TheConstants.{CUES, GROUPS, SUBS}
use Rattle.lx_spec.specs.declared.Move.{Move}
use Rattle.lx_spec.specs.declared.Section.{Section}
use Rattle.lx_spec.specs.declared.Section.TheVariants.{NoRecord, InCue, InGroup, InSub, Skipping}
use Rattle.lx_spec.specs.Show.{Cue, MemberSet, Show, ValidCue, ValidMember, ValidMove, ValidSet}
use Rattle.lx_spec.specs.SortedList.{IsStrictlySorted, all_placed, has_entry, placed}
use Rattle.lx_reader.specs.declared.open_record.Open.{Open}
use Rattle.lx_reader.specs.declared.open_record.Open.TheVariants as open_records
use Rattle.lx_reader.specs.declared.reader.Reader.{Reader}
use Rattle.lx_reader.specs.declared.reading.ShowPass.{ShowPass}
use Rattle.lx_reader.specs.LineOutcome.{CanGoOn}
use Rattle.lx_reader.specs.OpenMoves.{members_of}

-- a record is open
abbrev pub is_open : Open → Bool
is_open open_records.None = false
is_open other = true

-- the section is a cue's, a group's or a submaster's
abbrev pub is_record : Section → Bool
is_record NoRecord = false
is_record Skipping = false
is_record other = true

-- the record with these levels
abbrev pub filled_cue : List Move → Cue → Cue
filled_cue moves cue = record cue { moves = all_placed (λ m. m.chan) moves cue.moves }

abbrev pub filled_set : List Move → MemberSet → MemberSet
filled_set moves set = record set { members = all_placed (λ m. m.chan) (members_of moves) set.members }

-- the show with the open record in its place
abbrev pub with_open : Open → List Move → Show → Show
with_open open_records.None moves show = show
with_open (open_records.Cue cue) moves show = record show { cues = placed (λ c. c.number) (filled_cue moves cue) show.cues }
with_open (open_records.Group group) moves show = record show { groups = placed (λ s. s.number) (filled_set moves group) show.groups }
with_open (open_records.Sub sub) moves show = record show { subs = placed (λ s. s.number) (filled_set moves sub) show.subs }

-- the reader once that is put
abbrev pub settled : ShowPass → Reader
settled g = record g.reader { show = with_open g.held g.moves g.reader.show }

-- the cue may be put into the show with the moves
pub record CueFits (show : Show) (moves : List Move) (cue : Cue) : Type 0 where
  pub room : IsTrue (has_entry (λ c. c.number) cue.number show.cues || nat_lt (length show.cues) CUES)
  pub valid : ValidCue show.channels cue
  pub moves_valid : AllByRecursion (ValidMove show.channels cue.parts) moves
  pub rise : IsStrictlySorted (λ m. m.chan) moves

-- so it is with a group or submaster
pub record SetFits (limit : ℕ) (show : Show) (moves : List Move) (set : MemberSet) : Type 0 where
  pub valid : ValidSet limit show.channels set
  pub members : AllByRecursion (ValidMember show.channels) (members_of moves)
  pub rise : IsStrictlySorted (λ m. m.chan) moves

-- the open record is the section's, and may be put into the show
abbrev pub OpenFits : Show → Section → List Move → Open → Type 0
OpenFits show section moves open_records.None = (is_record section ≡ false) × (moves ≡ [])
OpenFits show section moves (open_records.Cue cue) = (section ≡ InCue cue.number) × CueFits show moves cue
OpenFits show section moves (open_records.Group group) = (section ≡ InGroup group.number) × SetFits GROUPS show moves group
OpenFits show section moves (open_records.Sub sub) = (section ≡ InSub sub.number) × SetFits SUBS show moves sub

abbrev pub PassFits : ShowPass → Type 0
PassFits g = OpenFits g.reader.show g.reader.section g.moves g.held

-- the pass can go on with line i
pub record IsReady (g : ShowPass) (i : ℕ) : Type 0 where
  pub ready : CanGoOn (settled g) i
  pub fits : PassFits g

-- so it can once IDENT was read, where no record is open
pub record IsBetween (g : ShowPass) (i : ℕ) : Type 0 where
  pub ready : CanGoOn g.reader i
  pub identified : g.reader.identified ≡ true
  pub none : g.held ≡ open_records.None
  pub empty : g.moves ≡ []
