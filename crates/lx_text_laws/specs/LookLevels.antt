-- A text that is read as looks has the levels of its looks.
use Rattle.std.specs.Prelude.{◌≡◌, ℕ, Ok, Some, List}
use Rattle.lx_spec.specs.declared.Form.TheVariants.{Moves, States}
use Rattle.lx_spec.specs.Show.{Cue, InRange}
use Rattle.lx_spec.specs.TrackedLevel.{cue_of, level_in, tracked}
use Rattle.lx_spec.specs.Reading.{Reading, reads}

-- where a text is read as looks, the tracked level of each channel at each cue is the one that the text names for it in that cue, or 0
abbrev pub LawOfLooks : Type 0
LawOfLooks =
    (bytes : List ℕ) (named looks : Reading) (cue : Cue) (n c : ℕ) → reads Moves bytes ≡ Ok named → reads States bytes ≡ Ok looks
    → cue_of named.show n ≡ Some cue → InRange named.show.channels c
    → tracked looks.show n c ≡ level_in cue c
