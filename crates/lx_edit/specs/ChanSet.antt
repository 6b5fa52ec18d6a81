-- Which channels are in a set of channels.
use Rattle.std.specs.Prelude.{ℕ, ◌-◌, ◌/◌, ◌%◌, Bool, ◌&&◌, ◌==◌, nat_lt, nat_le, slice_index}
use Rattle.lx_base.specs.declared.TheConstants.{CHANNELS}
use Rattle.std.specs.Int.{bit_at}
use Rattle.lx_edit.specs.declared.chan_set.ChanSet.{ChanSet}

-- the number is that of a channel
abbrev pub is_chan : ℕ → Bool
is_chan c = nat_lt 0 c && nat_le c CHANNELS

-- the channel is in the set: its bit is set, channel 1 having the first bit
unfoldable pub has_chan : ChanSet → ℕ → Bool
has_chan set c = is_chan c && (bit_at (slice_index set.words ((c - 1) / 64)) ((c - 1) % 64) == 1)
