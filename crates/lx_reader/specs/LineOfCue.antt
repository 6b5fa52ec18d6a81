-- What a line that isn't of levels says of the open record.
use Rattle.std.specs.Prelude.{◌≡◌, ℕ, Bool, true, false, None, Result, Ok, Err, List, IsTrue, unwrap_or}
use Rattle.std.specs.List.{AllByRecursion}
use Rattle.std.specs.Result.{IsOkAnd}
use Rattle.lx_base.specs.declared.TheConstants.{CUE_MAX, PARTS}
use Rattle.lx_spec.specs.declared.TextFault.{TextFault}
use Rattle.lx_spec.specs.declared.Word.{Word}
use Rattle.lx_spec.specs.declared.Word.TheVariants as words
use Rattle.lx_spec.specs.Entry.{Entry, Skipped, NamesPart, HasUp, HasDown, Follows, Links, IsLabelled, Blocks, Asserts, part_named}
use Rattle.lx_spec.specs.Facts.{Facts, first_facts}
use Rattle.lx_spec.specs.Limits.{desk_limits}
use Rattle.lx_spec.specs.Show.{Cue, InRange, IsLabel, IsTime, ValidPart}
use Rattle.lx_spec.specs.SortedList.{IsStrictlySorted, has_entry}
use Rattle.lx_reader.specs.ReadingState.{cue_with}

-- line i, of which nothing else need be known
abbrev pub facts_at : ℕ → Facts
facts_at i = record (first_facts desk_limits) { number = i }

abbrev pub is_levels : Word → Bool
is_levels words.Chan = true
is_levels other = false

-- the entry says something of a record's own, besides levels
abbrev pub is_own : Entry → Bool
is_own (NamesPart p) = true
is_own (HasUp time delay) = true
is_own (HasDown time delay) = true
is_own (Follows time) = true
is_own (Links n) = true
is_own (IsLabelled label) = true
is_own Blocks = true
is_own Asserts = true
is_own other = false

-- its numbers are in their ranges
abbrev pub HasRanges : Entry → Type 0
HasRanges (NamesPart p) = InRange PARTS p
HasRanges (HasUp time delay) = IsTime time × IsTime delay
HasRanges (HasDown time delay) = IsTime time × IsTime delay
HasRanges (Follows time) = IsTime time
HasRanges (Links n) = InRange CUE_MAX n
HasRanges (IsLabelled label) = IsLabel label
HasRanges other = Unit {0}

-- the parts of a cue are valid, and this one is there
pub record HasParts (cue : Cue) (p : ℕ) : Type 0 where
  pub sorted : IsStrictlySorted (λ part. part.number) cue.parts
  pub valid : AllByRecursion ValidPart cue.parts
  pub there : IsTrue (has_entry (λ part. part.number) p cue.parts)

-- an entry in a part changes a cue, and maybe the part that is open
pub record ChangesCue (old new : Cue) (p q : ℕ) (entry : Entry) : Type 0 where
  pub own : is_own entry ≡ true
  pub cue : new ≡ cue_with p entry old
  pub part : q ≡ unwrap_or (part_named entry) p
  pub ranges : HasRanges entry

-- a line says this of a cue, or nothing
abbrev pub CueSays : Result Entry TextFault → Cue → Cue → ℕ → ℕ → Result Bool TextFault → Type 0
CueSays entry old new p q (Ok true) = IsOkAnd entry (ChangesCue old new p q)
CueSays entry old new p q (Ok false) = (entry ≡ Ok (Skipped None)) × ((new ≡ old) × (q ≡ p))
CueSays entry old new p q (Err fault) = entry ≡ Err fault

-- a line says this of a group's or submaster's label, or nothing
abbrev pub LabelSays : Result Entry TextFault → List ℕ → List ℕ → Bool → Type 0
LabelSays entry old new true = (entry ≡ Ok (IsLabelled new)) × IsLabel new
LabelSays entry old new false = (entry ≡ Ok (Skipped None)) × (new ≡ old)
