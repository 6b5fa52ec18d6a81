-- What two lists keep is filled in: it is what both of them give.
use Rattle.std.specs.Prelude.{◌≡◌, length}
use Rattle.lx_spec.specs.Show.{Show}
use Rattle.lx_spec.specs.Kept.{Kept}
use Rattle.lx_spec.specs.TwoLists.{TwoDesks}
use Rattle.lx_mixer.specs.Table.{IsTable}
use Rattle.lx_patch.specs.DimmerTable.{StandsForPatch}
use Rattle.lx_console.specs.declared.change.Change.{Change}
use Rattle.lx_console.specs.Changes.{Changes}
use Rattle.lx_console.specs.KeptOutput.{Reaches, PatchesOwnChannels, SlotsStand}
use Rattle.lx_lists.specs.declared.output.Output.{Output}
use Rattle.lx_lists.specs.TwoListsMeaning.{TwoKept, TwoStand, out_of_both}

-- a place for each channel and for each dimmer
pub record HasRoomForFrames (show : Show) (output : Output) : Type 0 where
  pub greatest : length output.greatest.items ≡ show.channels
  pub kept : Reaches show.channels output.kept

-- the outputs are those of both lists, and the slots those of the outputs
pub record IsFilled (t : TwoKept) (output : Output) : Type 0 where
  pub room : HasRoomForFrames t.first.show output
  pub rows : PatchesOwnChannels t.first.show
  pub patch : StandsForPatch t.first.show.patch output.kept.table
  pub outs : IsTable t.first.show.channels (out_of_both t) output.kept.outs.items
  pub slots : SlotsStand t.first.show.patch output.kept

-- the output was filled in before the first list changed so
pub record WasFilled (change : Change) (t : TwoKept) (output : Output) : Type 0 where
  pub before : Kept
  pub channels : t.second.show.channels ≡ before.show.channels
  pub filled : IsFilled (record { first = before; second = t.second }) output
  pub changes : Changes change before t.first

-- The players stand for two desks at the same moment, over shows of the same channels, and the output is filled in.
pub record AreKept (t : TwoKept) (output : Output) : Type 0 where
  pub desks : TwoDesks
  pub stand : TwoStand desks t
  pub moments : t.second.playback.moment ≡ t.first.playback.moment
  pub channels : t.second.show.channels ≡ t.first.show.channels
  pub filled : IsFilled t output
