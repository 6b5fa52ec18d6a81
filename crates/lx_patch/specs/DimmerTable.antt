-- What a table of the patch stands for, and the slots that it gives.
use Rattle.std.specs.Prelude.{◌≡◌, ◌⊎◌, ℕ, ◌-◌, ◌<◌, List, length, slice_index}
use Rattle.std.specs.Option.{option_map_or}
use Rattle.lx_base.specs.declared.TheConstants.{CHANNELS, SLOTS}
use Rattle.lx_spec.specs.declared.PatchRow.{PatchRow}
use Rattle.lx_spec.specs.SortedList.{entry_at}
use Rattle.lx_mixer.specs.Table.{IsTable}

-- for each dimmer, the place of its channel's output and the level in whose proportion it follows that
pub record DimmerTable : Type 0 where
  pub places : List ℕ
  pub levels : List ℕ

-- there is a place and a level for each dimmer, and each place is that of a channel
pub record IsWired (places levels : List ℕ) : Type 0 where
  pub places_reach : length places ≡ SLOTS
  pub levels_reach : length levels ≡ SLOTS
  pub channels : (e : ℕ) → e < SLOTS → slice_index places e < CHANNELS

-- the place of the dimmer's channel, which is below its number, or the first where the dimmer isn't patched
abbrev pub place_of : List PatchRow → ℕ → ℕ
place_of rows e = option_map_or (λ row. row.chan - 1) (entry_at (λ row. row.dimmer) e rows) 0

-- the proportional level of the dimmer, or 0 where it isn't patched
abbrev pub proportion_of : List PatchRow → ℕ → ℕ
proportion_of rows e = option_map_or (λ row. row.level) (entry_at (λ row. row.dimmer) e rows) 0

-- the table has each dimmer's row, and that of a dimmer without one is as if it followed channel 1 at 0
pub record StandsForPatch (rows : List PatchRow) (table : DimmerTable) : Type 0 where
  pub places : IsTable SLOTS (place_of rows) table.places
  pub levels : IsTable SLOTS (proportion_of rows) table.levels

-- this many outputs have one for each dimmer, or else for each that is patched
abbrev pub ReachTable : ℕ → DimmerTable → Type 0
ReachTable n table =
    (k : ℕ) → k < SLOTS → (slice_index table.places k < n) ⊎ ((slice_index table.places k ≡ 0) × (slice_index table.levels k ≡ 0))
