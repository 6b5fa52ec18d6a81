-- Lines that ask something of the history.
use Rattle.std.specs.Prelude.{◌≢◌, ⊤, ℕ, Bool, ◌==◌, ◌&&◌, ◌||◌, not}
use Rattle.std.specs.Char.{is_ascii_alphabetic}
use Rattle.lx_spec.specs.declared.UndoLine.{UndoLine}
use Rattle.lx_spec.specs.declared.UndoLine.TheVariants.{Record}

-- a record names a cue
abbrev pub NamesCue : UndoLine → Type 0
NamesCue (Record n only) = n ≢ 0
NamesCue other = ⊤

-- a letter but U and R, in either case
abbrev pub is_other_letter : ℕ → Bool
is_other_letter b = is_ascii_alphabetic b && not (b == 85 || b == 117 || b == 82 || b == 114)
