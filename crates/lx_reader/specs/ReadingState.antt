-- The state of a reading, and the state after one more entry.
use Rattle.std.specs.Prelude.{ℕ, ◌+◌, ◌==◌, ◌&&◌, Option, Some, None, List, [], map, fold, max, Bool, true, false, unwrap_or}
use Rattle.std.specs.Prelude.{option_and_then, is_some, ◌||◌, if◌then◌else◌}
use Rattle.lx_base.specs.declared.TheConstants.{DEFAULT_CHANNELS}
use Rattle.lx_spec.specs.declared.Part.{Part}
use Rattle.lx_spec.specs.declared.Move.{Move}
use Rattle.lx_spec.specs.declared.Member.{Member}
use Rattle.lx_spec.specs.declared.PatchRow.{PatchRow}
use Rattle.lx_spec.specs.SortedList.{has_entry, placed, all_placed}
use Rattle.lx_spec.specs.EditedShow.{new_cue, new_part}
use Rattle.lx_show.specs.ChangedEntry.{changed}
use Rattle.lx_spec.specs.Show.{Cue, MemberSet, Show}
use Rattle.lx_spec.specs.declared.Form.{Form}
use Rattle.lx_spec.specs.declared.Section.{Section}
use Rattle.lx_spec.specs.declared.Section.TheVariants.{NoRecord}
use Rattle.lx_spec.specs.Entry.{Entry, Nothing, Skipped, Identifies, Begins, ClearsAll, HasChannels, Patches, HasUp, HasDown}
use Rattle.lx_spec.specs.Entry.{NamesPart, Ends, PlacedEntry, section_begun, part_named, identifies, cue_in, group_in, sub_in}
use Rattle.lx_spec.specs.Entry.{channels_set, rows_in, levels_in, follow_in, link_in, label_in, blocks, is_assert, is_skipped}
use Rattle.lx_spec.specs.Entry.{clears_all}
use Rattle.lx_spec.specs.Facts.{Facts}
use Rattle.lx_spec.specs.Limits.{desk_limits}
use Rattle.lx_spec.specs.Looks.{by_form}
use Rattle.lx_spec.specs.Reading.{Reading, channels_named}

-- the entries with the one of the number, made where it is absent
abbrev pub with_entry : {A : Type 0} → (A → ℕ) → (ℕ → A) → ℕ → List A → List A
with_entry key new n xs = if has_entry key n xs then xs else placed key (new n) xs

-- where a number is named, the entries with the one of it
abbrev pub with_named : {A : Type 0} → (A → ℕ) → (ℕ → A) → Option ℕ → List A → List A
with_named key new None xs = xs
with_named key new (Some n) xs = with_entry key new n xs

-- where there is a change, the entries with the one of the number changed
abbrev pub changed_in : {A : Type 0} → (A → ℕ) → Option (A → A) → Option ℕ → List A → List A
changed_in key None at xs = xs
changed_in key (Some change) None xs = xs
changed_in key (Some change) (Some n) xs = changed key n change xs

abbrev pub with_up : ℕ → ℕ → Part → Part
with_up time delay part = record part { up = time; up_delay = delay }

abbrev pub with_down : ℕ → ℕ → Part → Part
with_down time delay part = record part { down = time; down_delay = delay }

-- the moves of levels in a part
abbrev pub moves_of : ℕ → List Member → List Move
moves_of p members = map (λ m. record { chan = m.chan; part = p; level = m.level }) members

-- the parts with the one of the number
abbrev pub part_with_entry : ℕ → List Part → List Part
part_with_entry p parts = with_entry (λ part. part.number) new_part p parts

-- the entry says something of the record in which it stands
abbrev pub speaks : Entry → Bool
speaks Nothing = false
speaks (Skipped section) = false
speaks Identifies = false
speaks (Begins section) = false
speaks ClearsAll = false
speaks (HasChannels n) = false
speaks (Patches rows) = false
speaks Ends = false
speaks inner = true

-- the parts with what an entry in part p says
abbrev pub parts_with : ℕ → Entry → List Part → List Part
parts_with p (NamesPart q) parts = part_with_entry q parts
parts_with p (HasUp time delay) parts = changed (λ part. part.number) p (with_up time delay) parts
parts_with p (HasDown time delay) parts = changed (λ part. part.number) p (with_down time delay) parts
parts_with p other parts = parts

-- the later answer, where there is one
abbrev pub later : {A : Type 0} → Option A → Option A → Option A
later (Some x) o = Some x
later None o = o

-- the cue with what an entry in its section, and in part p, says
abbrev pub cue_with : ℕ → Entry → Cue → Cue
cue_with p entry cue = record {
  number = cue.number;
  block = if blocks entry then true else cue.block;
  asserted = if is_assert entry then true else cue.asserted;
  follow = later (follow_in entry) cue.follow;
  link = later (link_in entry) cue.link;
  label = unwrap_or (label_in entry) cue.label;
  parts = parts_with p entry cue.parts;
  moves = all_placed (λ m. m.chan) (moves_of p (levels_in entry)) cue.moves;
}

-- the group or submaster
abbrev pub set_with : Entry → MemberSet → MemberSet
set_with entry set = record {
  number = set.number;
  label = unwrap_or (label_in entry) set.label;
  members = all_placed (λ m. m.chan) (levels_in entry) set.members;
}

-- what an entry makes of the record in whose section it stands
abbrev pub change_by : {A : Type 0} → (Entry → A → A) → Entry → Option (A → A)
change_by with_it entry = if speaks entry then Some (with_it entry) else None

-- the cues with the one of the number
abbrev pub cue_with_entry : ℕ → List Cue → List Cue
cue_with_entry n cues = with_entry (λ cue. cue.number) new_cue n cues

-- the number of the cue, group or submaster that an entry begins
abbrev pub number_begun : (Section → Option ℕ) → Entry → Option ℕ
number_begun number entry = option_and_then number (section_begun entry)

-- the cues with what an entry says: it begins one, or changes that of its section
abbrev pub cues_with : Section → ℕ → Entry → List Cue → List Cue
cues_with section p entry cues =
    changed_in (λ cue. cue.number) (change_by (cue_with p) entry) (cue_in section)
    (with_named (λ cue. cue.number) new_cue (number_begun cue_in entry) cues)

abbrev pub new_set : ℕ → MemberSet
new_set n = record { number = n; label = []; members = [] }

-- the groups or submasters with the one of the number
abbrev pub with_set : ℕ → List MemberSet → List MemberSet
with_set n sets = with_entry (λ set. set.number) new_set n sets

abbrev pub sets_with : (Section → Option ℕ) → Section → Entry → List MemberSet → List MemberSet
sets_with number section entry sets =
    changed_in (λ set. set.number) (change_by set_with entry) (number section)
    (with_named (λ set. set.number) new_set (number_begun number entry) sets)

-- the show with what was said
abbrev pub show_with : PlacedEntry → Show → Show
show_with s show = record {
  channels = fold max show.channels (channels_named s.entry);
  cues = cues_with s.section s.part s.entry show.cues;
  groups = sets_with group_in s.section s.entry show.groups;
  subs = sets_with sub_in s.section s.entry show.subs;
  patch = all_placed (λ row. row.dimmer) (rows_in s.entry) show.patch;
}

-- the show with patch rows
abbrev pub with_rows : List PatchRow → Show → Show
with_rows rows show =
    record show { channels = fold max show.channels (map (λ row. row.chan) rows); patch = all_placed (λ row. row.dimmer) rows show.patch }

-- The state of a reading. The show, whose channel count is the greatest channel that is named, or 1, and what SET CHANNELS says. How
-- many lines were skipped, and the number of the first of them, or 0; whether an IDENT line was read, and the section and the open part.
pub record ReadingState : Type 0 where
  pub show : Show
  pub channels_set : Option ℕ
  pub skipped : ℕ
  pub first_skipped : ℕ
  pub identified : Bool
  pub section : Section
  pub part : ℕ

abbrev pub empty_show : Show
empty_show = record { channels = 1; cues = []; groups = []; subs = []; patch = [] }

abbrev pub first_state : ReadingState
first_state =
    record { show = empty_show; channels_set = None; skipped = 0; first_skipped = 0; identified = false; section = NoRecord; part = 1 }

-- an entry where the reading stands
abbrev pub placed_in : ReadingState → Entry → PlacedEntry
placed_in state entry = record { section = state.section; part = state.part; entry = entry }

-- the state after line i, which says this
abbrev pub state_after : ℕ → Entry → ReadingState → ReadingState
state_after i entry state = record {
  show = if clears_all entry then empty_show else show_with (placed_in state entry) state.show;
  channels_set = if clears_all entry then None else later (channels_set entry) state.channels_set;
  skipped = if is_skipped entry then state.skipped + 1 else state.skipped;
  first_skipped = if is_skipped entry && state.skipped == 0 then i else state.first_skipped;
  identified = identifies entry || state.identified;
  section = unwrap_or (section_begun entry) state.section;
  part = if is_some (section_begun entry) then 1 else unwrap_or (part_named entry) state.part;
}

-- what is known of line i
abbrev pub facts_in : ReadingState → ℕ → Facts
facts_in state i = record {
  limits = desk_limits;
  number = i;
  identified = state.identified;
  section = state.section;
  part = state.part;
  cues = map (λ cue. cue.number) state.show.cues;
}

-- what was read, once the text ends in this state
abbrev pub final_reading : Form → ReadingState → Reading
final_reading form state = record {
  show = by_form form (record state.show { channels = max state.show.channels (unwrap_or state.channels_set DEFAULT_CHANNELS) });
  skipped = state.skipped;
  first_skipped = state.first_skipped;
}
