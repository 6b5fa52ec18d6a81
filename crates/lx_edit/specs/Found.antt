-- What is known of the things that an edit names, once they were found.
use Rattle.std.specs.Prelude.{◌≡◌, ℕ, ◌≤◌, IsTrue, Option, Some, IfSome, Result, Ok, Err, ◌≢◌, option_and_then, List}
use Rattle.lx_base.specs.Numbers.{Span}
use Rattle.lx_spec.specs.declared.Part.{Part}
use Rattle.lx_spec.specs.declared.Move.{Move}
use Rattle.lx_spec.specs.declared.Refusal.{Refusal}
use Rattle.lx_spec.specs.declared.Refusal.TheVariants.{Memory}
use Rattle.lx_spec.specs.SortedList.{entry_at, has_entry}
use Rattle.lx_spec.specs.Show.{Cue, Show, Valid, ValidCue}
use Rattle.lx_spec.specs.TrackedLevel.{cue_of}
use Rattle.lx_spec.specs.EditedShow.{with_cue, the_given_part}

-- the show has the cue, of this number
pub record FoundCue (show : Show) (n : ℕ) (cue : Cue) : Type 0 where
  pub found : cue_of show n ≡ Some cue
  pub number : cue.number ≡ n
  pub valid : ValidCue show.channels cue
  pub same : with_cue show cue ≡ show
  pub valid_show : Valid show

-- the part that is given is the cue's
pub record GivenPart (cue : Cue) (given part : Option ℕ) : Type 0 where
  pub same : part ≡ given
  pub there : IfSome given (λ p. IsTrue (has_entry (λ x. x.number) p cue.parts))
  pub is : the_given_part cue given ≡ Ok (option_and_then (λ p. entry_at (λ x. x.number) p cue.parts) given)

-- the range is within the channels
pub record IsWithin (channels : ℕ) (range : Span) : Type 0 where
  pub order : range.first ≤ range.last
  pub most : range.last ≤ channels

-- the move is of one of the show's channels, in one of these parts
pub record Fits (channels : ℕ) (parts : List Part) (m : Move) : Type 0 where
  pub chan : m.chan ≤ channels
  pub part : IsTrue (has_entry (λ p. p.number) m.part parts)

-- what was looked for is absent: the refusal says so, and isn't out of memory
abbrev pub IsAbsence : {T : Type 0} → Result T Refusal → Refusal → Type 0
IsAbsence answer refusal = (answer ≡ Err refusal) × (refusal ≢ Memory)
