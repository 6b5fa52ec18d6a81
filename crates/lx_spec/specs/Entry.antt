-- What a line of a show text says: an entry, which stands in a section and, in a cue, in its open part.
use Rattle.std.specs.Prelude.{ℕ, Bool, true, false, Option, Some, None, List, []}
use Rattle.lx_spec.specs.declared.Member.{Member}
use Rattle.lx_spec.specs.declared.PatchRow.{PatchRow}
pub use Rattle.lx_spec.specs.declared.Section.{Section}
pub use Rattle.lx_spec.specs.declared.Section.TheVariants.{NoRecord, InCue, InGroup, InSub, Skipping}

-- A time comes with its delay, and a skipped line with the section that it begins, if any.
pub data Entry : Type 0 where
  Nothing : Entry
  Skipped : Option Section → Entry
  Identifies : Entry
  Begins : Section → Entry
  ClearsAll : Entry
  HasChannels : ℕ → Entry
  Patches : List PatchRow → Entry
  HasLevels : List Member → Entry
  NamesPart : ℕ → Entry
  HasUp : ℕ → ℕ → Entry
  HasDown : ℕ → ℕ → Entry
  Follows : ℕ → Entry
  Links : ℕ → Entry
  IsLabelled : List ℕ → Entry
  Blocks : Entry
  Asserts : Entry
  Ends : Entry

pub record PlacedEntry : Type 0 where
  pub section : Section
  pub part : ℕ
  pub entry : Entry

-- What an entry says of each thing.
abbrev pub section_begun : Entry → Option Section
section_begun (Begins section) = Some section
section_begun (Skipped section) = section
section_begun Identifies = Some NoRecord
section_begun ClearsAll = Some NoRecord
section_begun (HasChannels n) = Some NoRecord
section_begun (Patches rows) = Some NoRecord
section_begun other = None

abbrev pub channels_set : Entry → Option ℕ
channels_set (HasChannels n) = Some n
channels_set other = None

abbrev pub rows_in : Entry → List PatchRow
rows_in (Patches rows) = rows
rows_in other = []

abbrev pub levels_in : Entry → List Member
levels_in (HasLevels members) = members
levels_in other = []

abbrev pub part_named : Entry → Option ℕ
part_named (NamesPart p) = Some p
part_named other = None

abbrev pub up_in : Entry → Option (ℕ × ℕ)
up_in (HasUp time delay) = Some (time, delay)
up_in other = None

abbrev pub down_in : Entry → Option (ℕ × ℕ)
down_in (HasDown time delay) = Some (time, delay)
down_in other = None

abbrev pub follow_in : Entry → Option ℕ
follow_in (Follows t) = Some t
follow_in other = None

abbrev pub link_in : Entry → Option ℕ
link_in (Links n) = Some n
link_in other = None

abbrev pub label_in : Entry → Option (List ℕ)
label_in (IsLabelled label) = Some label
label_in other = None

abbrev pub blocks : Entry → Bool
blocks Blocks = true
blocks other = false

abbrev pub is_assert : Entry → Bool
is_assert Asserts = true
is_assert other = false

abbrev pub is_skipped : Entry → Bool
is_skipped (Skipped section) = true
is_skipped other = false

abbrev pub identifies : Entry → Bool
identifies Identifies = true
identifies other = false

abbrev pub clears_all : Entry → Bool
clears_all ClearsAll = true
clears_all other = false

abbrev pub is_end : Entry → Bool
is_end Ends = true
is_end other = false

-- the number of a section's cue, group or submaster
abbrev pub cue_in : Section → Option ℕ
cue_in (InCue n) = Some n
cue_in other = None

abbrev pub group_in : Section → Option ℕ
group_in (InGroup g) = Some g
group_in other = None

abbrev pub sub_in : Section → Option ℕ
sub_in (InSub s) = Some s
sub_in other = None
