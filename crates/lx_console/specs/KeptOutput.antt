-- What a console keeps is filled in: it is what the show, the playback, the faders and the master give.
use Rattle.std.specs.Prelude.{◌≡◌, ◌≢◌, ℕ, ◌+◌, ◌-◌, ◌<◌, max, Bool, false, Some, None, List, length, slice_index}
use Rattle.std.specs.List.{AllByRecursion}
use Rattle.lx_base.specs.declared.TheConstants.{SLOTS}
use Rattle.lx_base.specs.Numbers.{scaled}
use Rattle.lx_spec.specs.declared.PatchRow.{PatchRow}
use Rattle.lx_spec.specs.SortedList.{entry_at}
use Rattle.lx_spec.specs.Show.{Show, Valid, ValidPatchRow}
use Rattle.lx_spec.specs.Output.{contribution, dimmer_value}
use Rattle.lx_spec.specs.Kept.{Kept}
use Rattle.lx_sheet.specs.Rows.{Sheet}
use Rattle.lx_sheet.specs.SheetMeaning.{RowsStandFor}
use Rattle.lx_edit.specs.declared.dirty.Dirty.{Dirty}
use Rattle.lx_mixer.specs.Table.{IsTable}
use Rattle.lx_patch.specs.DimmerTable.{DimmerTable, StandsForPatch}
use Rattle.lx_levels.specs.Stacks.{KeptLevels as Levels}
use Rattle.lx_levels.specs.LevelsMeaning.{LevelsStandFor}
use Rattle.lx_subs.specs.Faders.{Faders, StandsForSubs}
use Rattle.lx_console.specs.declared.change.Change.{Change}
use Rattle.lx_console.specs.declared.change.Change.TheVariants.{Nothing, Levels as Leveled, Row}
use Rattle.lx_console.specs.declared.kept_output.KeptOutput.{KeptOutput}
use Rattle.lx_console.specs.Changes.{Changes}
use Rattle.lx_console.specs.ConsoleMeaning.{out_now}

-- a place for each channel and for each dimmer
pub record Reaches (channels : ℕ) (output : KeptOutput) : Type 0 where
  pub outs_reach : length output.outs.items ≡ channels
  pub mixed_reach : length output.mixed.items ≡ channels
  pub slots_reach : length output.slots.items ≡ SLOTS

-- the show's rows patch channels that it has
abbrev pub PatchesOwnChannels : Show → Type 0
PatchesOwnChannels show = AllByRecursion (ValidPatchRow show.channels) show.patch

-- the slots are those of the outputs
abbrev pub SlotsStand : List PatchRow → KeptOutput → Type 0
SlotsStand patch output = IsTable SLOTS (dimmer_value patch (λ c. slice_index output.outs.items (c - 1))) output.slots.items

-- the outputs are mixed from the levels and from what the submasters give, and the slots are those of the outputs
pub record IsMixedOutput (levels : List ℕ) (player : Kept) (output : KeptOutput) : Type 0 where
  pub reaches : Reaches player.show.channels output
  pub rows : PatchesOwnChannels player.show
  pub patch_stands : StandsForPatch player.show.patch output.table
  pub outs : (k : ℕ) → k < length output.outs.items
      → slice_index output.outs.items k ≡ scaled (max (slice_index levels k) (contribution player.show player.faders (k + 1))) player.master
  pub slots_stand : SlotsStand player.show.patch output

-- the output shows the player
pub record ShowsPlayer (player : Kept) (output : KeptOutput) : Type 0 where
  pub reaches : Reaches player.show.channels output
  pub rows : PatchesOwnChannels player.show
  pub patch_stands : StandsForPatch player.show.patch output.table
  pub outs_stand : IsTable player.show.channels (out_now player) output.outs.items
  pub slots_stand : SlotsStand player.show.patch output

-- the output showed the player before it changed so
pub record ShowedPlayer (change : Change) (player : Kept) (output : KeptOutput) : Type 0 where
  pub before : Kept
  pub filled : ShowsPlayer before output
  pub changes : Changes change before player

-- the table stands for these rows but for that of the dimmer
pub record IsPatchedBut (rows : List PatchRow) (dimmer : ℕ) (table : DimmerTable) : Type 0 where
  pub before : List PatchRow
  pub stands : StandsForPatch before table
  pub others : (e : ℕ) → e ≢ dimmer → entry_at (λ row. row.dimmer) e rows ≡ entry_at (λ row. row.dimmer) e before

-- an edit touched nothing that goes out, and no level changed by it
pub record IsClean (dirty : Dirty) (leveled : Bool) : Type 0 where
  pub levels : leveled ≡ false
  pub dimmer : dirty.dimmer ≡ None
  pub subs : dirty.subs ≡ false

-- the change that an edit makes which touched this, and whether levels changed by it
abbrev pub IsChangeOf : Dirty → Bool → Change → Type 0
IsChangeOf dirty leveled Nothing = IsClean dirty leveled
IsChangeOf dirty leveled Leveled = dirty.dimmer ≡ None
IsChangeOf dirty leveled (Row e) = dirty.dimmer ≡ Some e

-- the show is valid, and the rows, the rack and the levels stand for it and the playback
pub record IsKept (player : Kept) (sheet : Sheet) (rack : Faders) (levels : Levels) : Type 0 where
  pub valid : Valid player.show
  pub rows : RowsStandFor player.show sheet
  pub subs : StandsForSubs player.show rack
  pub levels_stand : LevelsStandFor player.show player.playback levels
