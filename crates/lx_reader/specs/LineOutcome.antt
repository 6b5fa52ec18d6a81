-- What a reader makes of a line.
use Rattle.std.specs.Prelude.{◌≡◌, ℕ, ◌<◌, Bool, true, false, None, Result, Ok, Err}
use Rattle.std.specs.Result.{IsOkAnd}
use Rattle.lx_spec.specs.declared.TextFault.{TextFault}
use Rattle.lx_spec.specs.declared.Word.{Word}
use Rattle.lx_spec.specs.declared.Word.TheVariants as words
use Rattle.lx_spec.specs.Facts.{Facts}
use Rattle.lx_spec.specs.Show.{Show}
use Rattle.lx_spec.specs.declared.Section.TheVariants.{NoRecord}
use Rattle.lx_spec.specs.Entry.{Entry, Skipped, is_end}
use Rattle.lx_reader.specs.declared.reader.Reader.{Reader}
use Rattle.lx_reader.specs.declared.fault.ShowFault.{ShowFault}
use Rattle.lx_reader.specs.LineFaults.{IsFaultOf}
use Rattle.lx_reader.specs.OpenRecord.{IsOpen}
use Rattle.lx_reader.specs.ReadingState.{ReadingState, state_after, facts_in}

-- what the lines so far say
abbrev pub state_of : Reader → ReadingState
state_of r = record {
  show = r.show;
  channels_set = r.channels_set;
  skipped = r.skipped;
  first_skipped = r.first_skipped;
  identified = r.identified;
  section = r.section;
  part = r.part;
}

-- a reader that has read nothing yet
abbrev pub new_reader : Show → Reader
new_reader show = record {
  show = show;
  channels_set = None;
  skipped = 0;
  first_skipped = 0;
  identified = false;
  section = NoRecord;
  part = 1;
  ended = false;
}

-- what the reader knows of line i, which is next
abbrev pub facts_of : Reader → ℕ → Facts
facts_of r i = facts_in (state_of r) i

-- the reader can go on with line i
pub record CanGoOn (r : Reader) (i : ℕ) : Type 0 where
  pub open_section : IsOpen r.show r.section r.part
  pub few : r.skipped < i
  pub going : r.ended ≡ false

-- the reader went a step on with line i, which says this
pub record IsStep (old new : Reader) (i : ℕ) (entry : Entry) : Type 0 where
  pub state : state_of new ≡ state_after i entry (state_of old)
  pub ended : new.ended ≡ is_end entry

-- Where the line says something, the reader goes on. A fault is the definition's; out of memory is free.
abbrev pub Outcome : Reader → Reader → ℕ → Result (Unit {0}) ShowFault → Result Entry TextFault → Type 0
Outcome old new i (Ok done) entry = IsOkAnd entry (IsStep old new i)
Outcome old new i (Err fault) entry = IsFaultOf fault entry

-- What comes of a line for the open record: it says something, or it says nothing and changes nothing.
abbrev pub Said : Reader → Reader → ℕ → Result Bool TextFault → Result Entry TextFault → Type 0
Said old new i (Ok true) entry = IsOkAnd entry (IsStep old new i)
Said old new i (Ok false) entry = (entry ≡ Ok (Skipped None)) × (new ≡ old)
Said old new i (Err fault) entry = entry ≡ Err fault

-- a line of this word ends a record, and maybe begins one
abbrev pub is_outer : Word → Bool
is_outer words.Ident = true
is_outer words.Maker = true
is_outer words.OneDollar = true
is_outer words.Clear = true
is_outer words.Set = true
is_outer words.Patch = true
is_outer words.Cue = true
is_outer words.Group = true
is_outer words.Sub = true
is_outer other = false

-- and is a fault before IDENT
abbrev pub is_known : Word → Bool
is_known words.Clear = true
is_known words.Set = true
is_known words.Patch = true
is_known words.Cue = true
is_known words.Group = true
is_known words.Sub = true
is_known other = false
