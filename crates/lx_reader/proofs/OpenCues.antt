-- A cue that is open: what a line says of it, and that it stays valid.
use Rattle.lx_reader.proofs.Imports.{◌≡◌, ℕ, ◌≤◌, true, false, cond, List, Some, None, ap, ◌∙◌, sym, subst, IsTrue, arith, IfSome, ◌==◌}
use Rattle.lx_reader.proofs.Imports.{AllByRecursion, option_map_or, PARTS, Member, Move, Part, new_part, Entry, NamesPart, HasUp, HasDown, Follows}
use Rattle.lx_reader.proofs.Imports.{Links, IsLabelled, Blocks, Asserts, Cue, InRange, MemberSet, Show, ValidCue, ValidMember, ValidMove, ValidPart}
use Rattle.lx_reader.proofs.Imports.{ValidSet, all_placed, entry_at, has_entry, placed, each, find_has, has_placed, changed, with_other_moves}
use Rattle.lx_reader.proofs.Imports.{with_settings, All-all_placed, IsStrictlySorted-all_placed, ChangesCue, HasRanges, is_own, cue_with, parts_with}
use Rattle.lx_reader.proofs.Imports.{with_down, part_with_entry, with_up, members_of, CueFits, SetFits, filled_cue, filled_set}
use Rattle.lx_show.proofs.ChangedCues.{with_placed_part}
use Rattle.lx_show.proofs.PlacedEntries.{has_changed}

-- a new part takes 5 seconds both ways
new_part_valid : (p : ℕ) → InRange PARTS p → ValidPart (new_part p)
new_part_valid p range = record { number = range; up = omega arith; up_delay = omega arith; down = omega arith; down_delay = omega arith }

-- the parts stay there
pub parts_kept : (p m : ℕ) (e : Entry) (parts : List Part) → IsTrue (has_entry (λ q. q.number) m parts)
    → IsTrue (has_entry (λ q. q.number) m (parts_with p e parts))
parts_kept p m e parts there = elim e as (λ e. IsTrue (has_entry (λ q. q.number) m (parts_with p e parts))) [
  | NamesPart k ↦ elim (has_entry (λ q. q.number) k parts) as
      (λ b. IsTrue (has_entry (λ q. q.number) m (cond b parts (placed (λ q. q.number) (new_part k) parts))))
      [ true ↦ there | false ↦ has_placed (λ q. q.number) m (new_part k) parts there ]
  | HasUp time delay ↦ has_changed (λ q. q.number) p m (with_up time delay) parts there
  | HasDown time delay ↦ has_changed (λ q. q.number) p m (with_down time delay) parts there
  | _ ↦ there
]

named_valid : (channels k : ℕ) (cue : Cue) → ValidCue channels cue → InRange PARTS k
    → ValidCue channels (record cue { parts = part_with_entry k cue.parts })
named_valid channels k cue valid range =
    elim (has_entry (λ q. q.number) k cue.parts) as
    (λ b. ValidCue channels (record cue { parts = cond b cue.parts (placed (λ q. q.number) (new_part k) cue.parts) }))
    [ true ↦ valid | false ↦ with_placed_part channels cue (new_part k) valid (new_part_valid k range) ]

timed_valid : (channels p : ℕ) (f : Part → Part) (cue : Cue) → ValidCue channels cue → ((part : Part) → ValidPart part → ValidPart (f part))
    → ValidCue channels (record cue { parts = changed (λ q. q.number) p f cue.parts })
timed_valid channels p f cue valid keeps =
    elim (entry_at (λ q. q.number) p cue.parts) as (λ o. IfSome o ValidPart
    → ValidCue channels (record cue { parts = option_map_or (λ x. placed (λ q. q.number) (f x) cue.parts) o cue.parts })) [
      | None ↦ λ found. valid
      | Some x ↦ λ found. with_placed_part channels cue (f x) valid (keeps x found)
    ] (find_has ValidPart (λ q. q.number == p) cue.parts valid.parts)

-- what a line says of a cue leaves it valid
pub own_valid : (channels p : ℕ) (e : Entry) (cue : Cue) → ValidCue channels cue → is_own e ≡ true → HasRanges e
    → ValidCue channels (cue_with p e cue)
own_valid channels p e cue valid = elim e as (λ e. is_own e ≡ true → HasRanges e → ValidCue channels (cue_with p e cue)) [
  | NamesPart k ↦ λ own ranges. named_valid channels k cue valid ranges
  | HasUp time delay ↦ λ own ranges. timed_valid channels p (with_up time delay) cue valid (λ part v. record
      { number = v.number; up = ranges.0; up_delay = ranges.1; down = v.down; down_delay = v.down_delay })
  | HasDown time delay ↦ λ own ranges. timed_valid channels p (with_down time delay) cue valid (λ part v. record
      { number = v.number; up = v.up; up_delay = v.up_delay; down = ranges.0; down_delay = ranges.1 })
  | Follows time ↦ λ own ranges. with_settings channels cue cue.block cue.asserted (Some time) cue.link cue.label valid ranges valid.link valid.label
  | Links n ↦ λ own ranges. with_settings channels cue cue.block cue.asserted cue.follow (Some n) cue.label valid valid.follow ranges valid.label
  | IsLabelled label ↦ λ own ranges.
      with_settings channels cue cue.block cue.asserted cue.follow cue.link label valid valid.follow valid.link ranges
  | Blocks ↦ λ own ranges. with_settings channels cue true cue.asserted cue.follow cue.link cue.label valid valid.follow valid.link valid.label
  | Asserts ↦ λ own ranges. with_settings channels cue cue.block true cue.follow cue.link cue.label valid valid.follow valid.link valid.label
  | _ ↦ λ own ranges. cc
]

-- so it may still be put into the show
pub own_fits : (show : Show) (moves : List Move) (old new : Cue) (p q : ℕ) (e : Entry) → CueFits show moves old → ChangesCue old new p q e
    → CueFits show moves new
own_fits show moves old new p q e fits change =
    subst (CueFits show moves) (sym change.cue) (record {
      room = fits.room;
      valid = own_valid show.channels p e old fits.valid change.own change.ranges;
      moves_valid = each _ _ moves (λ m h. record { chan = h.chan; part = parts_kept p m.part e old.parts h.part; level = h.level })
          fits.moves_valid;
      rise = fits.rise;
    })

-- the cue with its levels is valid
pub filled_valid : {show : Show} {moves : List Move} {cue : Cue} → CueFits show moves cue → ValidCue show.channels (filled_cue moves cue)
filled_valid {show} {moves} {cue} fits = with_other_moves show.channels cue _ fits.valid
    (All-all_placed (ValidMove show.channels cue.parts) (λ m. m.chan) moves cue.moves fits.moves_valid fits.valid.moves)
    (IsStrictlySorted-all_placed (λ m. m.chan) moves cue.moves fits.valid.moves_sorted)

pub moves_within : {show : Show} {moves : List Move} {cue : Cue} {k : ℕ} → k ≡ show.channels → CueFits show moves cue
    → AllByRecursion (λ m. m.chan ≤ k) moves
moves_within {moves = moves} is fits = each _ _ moves (λ m h. omega (arith, is, h.chan.most)) fits.moves_valid

-- the group or submaster with its levels is valid
pub filled_set_valid : {limit : ℕ} {show : Show} {moves : List Move} {set : MemberSet} → SetFits limit show moves set
    → ValidSet limit show.channels (filled_set moves set)
filled_set_valid {show = show} {moves = moves} {set = set} fits = record {
  number = fits.valid.number;
  label = fits.valid.label;
  members = record {
    each = All-all_placed (ValidMember show.channels) (λ m. m.chan) (members_of moves) set.members fits.members fits.valid.members.each;
    sorted = IsStrictlySorted-all_placed (λ m. m.chan) (members_of moves) set.members fits.valid.members.sorted;
  };
}

-- a record of which a field was lent and written
pub cue_written : (moves : List Move) {new : List Move} {seen cue : Cue} → seen ≡ cue → new ≡ all_placed (λ m. m.chan) moves seen.moves
    → record seen { moves = new } ≡ filled_cue moves cue
cue_written moves {seen = seen} view is = (λ j. record seen { moves = is j }) ∙ ap (filled_cue moves) view

pub set_written : (moves : List Move) {new : List Member} {seen set : MemberSet} → seen ≡ set
    → new ≡ all_placed (λ m. m.chan) (members_of moves) seen.members → record seen { members = new } ≡ filled_set moves set
set_written moves {seen = seen} view is = (λ j. record seen { members = is j }) ∙ ap (filled_set moves) view
