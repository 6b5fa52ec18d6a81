-- What contracts know of the bytes of a source or a sink.
use Rattle.std.specs.Prelude.{ℕ, Option, List, ◌++◌}
use Rattle.std.specs.Io.KnownBytes.{Appends}

-- the bytes that a source has left or a sink holds, where it tells them
abbrev pub Known : Type 0
Known = Option (List ℕ)

-- this text was appended, and behind it more, or nothing
abbrev pub AppendsAtLeast : Known → Known → List ℕ → Type 0
AppendsAtLeast held held' text = (more : List ℕ) × Appends held held' (text ++ more)
