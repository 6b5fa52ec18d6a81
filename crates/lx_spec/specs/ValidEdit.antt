-- What holds of each edit that is asked for: it names a cue as a cue may be numbered, and its times are within the limit.
use Rattle.std.specs.Prelude.{ℕ, Option, Some, None, List, [], ◌∷◌, IfSome, ⊤}
use Rattle.std.specs.List.{AllByRecursion}
use Rattle.std.specs.Option.{option_to_list}
use Rattle.lx_base.specs.declared.TheConstants.{CUE_MAX, TICKS, UNIVERSES}
use Rattle.lx_spec.specs.declared.Edit.{Edit}
use Rattle.lx_spec.specs.declared.Edit.TheVariants.{MakeCue, DeleteCue, Set, SetGroup, Release, Time, AddPart, DeletePart, Block, Unblock}
use Rattle.lx_spec.specs.declared.Edit.TheVariants.{Asserted, Follow, Name}
use Rattle.lx_spec.specs.declared.Command.{Command}
use Rattle.lx_spec.specs.declared.Command.TheVariants as commands
use Rattle.lx_spec.specs.declared.Line.{Line}
use Rattle.lx_spec.specs.declared.Line.TheVariants as lines
use Rattle.lx_spec.specs.Show.{InRange, IsTime}

-- the cue that the edit names
abbrev pub cue_edited : Edit → Option ℕ
cue_edited (MakeCue n) = Some n
cue_edited (DeleteCue n only) = Some n
cue_edited (Set n part range level only) = Some n
cue_edited (SetGroup n part g level only) = Some n
cue_edited (Release n range only) = Some n
cue_edited (Time n p rising time delay) = Some n
cue_edited (AddPart n p) = Some n
cue_edited (DeletePart n p) = Some n
cue_edited (Block n) = Some n
cue_edited (Unblock n) = Some n
cue_edited (Asserted n on) = Some n
cue_edited (Follow n after) = Some n
cue_edited (Name n label) = Some n
cue_edited other = None

-- the times that the edit gives
abbrev pub times_given : Edit → List ℕ
times_given (Time n p rising time delay) = time ∷ delay ∷ []
times_given (Follow n after) = option_to_list after
times_given other = []

pub record ValidEdit (edit : Edit) : Type 0 where
  pub cue : IfSome (cue_edited edit) (InRange CUE_MAX)
  pub times : AllByRecursion IsTime (times_given edit)

-- the edit of a command
abbrev pub edit_of : Command → Option Edit
edit_of (commands.Edit edit) = Some edit
edit_of other = None

abbrev pub ValidCommand : Command → Type 0
ValidCommand command = IfSome (edit_of command) ValidEdit

-- what is known of the meaning of a script line: the numbers in it are in their range
abbrev pub ValidLine : Line → Type 0
ValidLine (lines.Command command) = ValidCommand command
ValidLine (lines.Ticks k) = InRange TICKS k
ValidLine (lines.Frame u) = InRange UNIVERSES u
ValidLine (lines.SheetOf n) = InRange CUE_MAX n
ValidLine other = ⊤
