-- One script line on its way: what it means, how many attempts are left, and the refusal that ended them.
use Rattle.std.specs.Prelude.{◌≡◌, ℕ, ◌<◌, ◌==◌, true, Option, Some, None, IfSome, is_some, List, if◌then◌else◌}
use Rattle.lx_spec.specs.declared.Command.{Command}
use Rattle.lx_spec.specs.declared.Line.{Line}
use Rattle.lx_spec.specs.declared.Line.TheVariants.{Frame}
use Rattle.lx_spec.specs.declared.Refusal.{Refusal}
use Rattle.lx_spec.specs.ValidEdit.{ValidLine}
use Rattle.lx_spec.specs.Script.{line_of}
use Rattle.lx_spec.specs.DeskSession.{command_of, count_of}

pub record LineState : Type 0 where
  pub meaning : Option Line
  pub left : ℕ
  pub refusal : Option Refusal

-- a line that was not attempted yet
abbrev pub unattempted : Option Line → LineState
unattempted meaning = record { meaning = meaning; left = count_of meaning; refusal = None }

-- what a line means that is given or, being too long, isn't
abbrev pub meaning_of : Option (List ℕ) → Option Line
meaning_of None = None
meaning_of (Some line) = line_of line

-- the command to attempt now
abbrev pub next_of : LineState → Option Command
next_of turn = if is_some turn.refusal then None else (if turn.left == 0 then None else command_of turn.meaning)

-- the universe whose frame a line asks for
abbrev pub frame_of : Option Line → Option ℕ
frame_of (Some (Frame u)) = Some u
frame_of other = None

-- what always holds of a line on its way
pub record IsLineState (turn : LineState) : Type 0 where
  pub valid : IfSome turn.meaning ValidLine
  pub commands : 0 < turn.left → is_some (command_of turn.meaning) ≡ true
