-- What a sink holds that keeps bytes back.
use Rattle.std.specs.Prelude.{ℕ, List, take, ◌++◌, Some, None}
use Rattle.std.specs.declared.option.Option.{Option}
use Rattle.lx_io.specs.declared.buffered.BufferedSink.{BufferedSink}

-- the bytes that are kept back
abbrev pub kept_back : {K : Type 0} → BufferedSink K → List ℕ
kept_back s = take s.len s.room.items

-- the bytes of the sink below, and then those that are kept back
abbrev pub with_kept : Option (List ℕ) → List ℕ → Option (List ℕ)
with_kept None kept = None
with_kept (Some bytes) kept = Some (bytes ++ kept)
