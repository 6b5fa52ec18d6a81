-- A session at a desk: a line attempts its command, once or several times, up to the first attempt that is refused, and gets one reply.
use Rattle.std.specs.Prelude.{◌≡◌, ℕ, zero, suc, Bool, true, false, Option, Some, None, Result, Ok, Err, IsOk, List, [], ◌∷◌, ◌++◌}
use Rattle.std.specs.Prelude.{is_some, if◌then◌else◌}
use Rattle.std.specs.Option.{option_map_or}
use Rattle.lx_spec.specs.declared.Command.{Command}
use Rattle.lx_spec.specs.declared.Command.TheVariants as commands
use Rattle.lx_spec.specs.declared.Line.{Line}
use Rattle.lx_spec.specs.declared.Line.TheVariants as lines
use Rattle.lx_spec.specs.declared.Refusal.{Refusal}
use Rattle.lx_spec.specs.declared.Refusal.TheVariants.{AbsentCue, Memory}
use Rattle.lx_spec.specs.TrackedLevel.{cue_of}
use Rattle.lx_spec.specs.Desk.{Desk, step}
use Rattle.lx_spec.specs.WantedMemory.{may_lack_memory}
use Rattle.lx_spec.specs.Output.{frame}
use Rattle.lx_spec.specs.ShowText.{show_text}
use Rattle.lx_spec.specs.Script.{line_of}
use Rattle.lx_spec.specs.Replies.{refused_text, frame_text, row_text, row_of}
use Rattle.lx_spec.specs.Session.{Session, Answering, with_text, ok_reply, refused_reply, bad_reply}

-- the desk, and the commands that it accepted since the session began
pub record DeskState : Type 0 where
  pub desk : Desk
  pub accepted : List Command

-- as a session begins at a desk
abbrev pub begun : Desk → DeskState
begun d = record { desk = d; accepted = [] }

-- attempts at a command: the state after them, and why the last was refused, if it was
pub record Attempt : Type 0 where
  pub state : DeskState
  pub refusal : Option Refusal

abbrev pub answered : DeskState → Command → Result Desk Refusal → Attempt
answered s command (Ok d) = record { state = record { desk = d; accepted = s.accepted ++ command ∷ [] }; refusal = None }
answered s command (Err refusal) = record { state = s; refusal = Some refusal }

-- one attempt, as the desk answers it
abbrev pub attempt : DeskState → Command → Attempt
attempt s command = answered s command (step s.desk command)

-- the next, unless the last was refused
abbrev pub and_then : Attempt → (DeskState → Attempt) → Attempt
and_then tried next = option_map_or (λ refusal. tried) tried.refusal (next tried.state)

-- this many attempts at a command, up to the first that is refused; the one that fails is refused with Memory
abbrev pub attempts_of : Option ℕ → Command → ℕ → DeskState → Attempt
attempts_of failed command zero s = record { state = s; refusal = None }
attempts_of None command (suc n) s = and_then (attempt s command) (attempts_of None command n)
attempts_of (Some zero) command (suc n) s = record { state = s; refusal = Some Memory }
attempts_of (Some (suc k)) command (suc n) s = and_then (attempt s command) (attempts_of (Some k) command n)

-- the command that a line attempts
abbrev pub command_of : Option Line → Option Command
command_of None = None
command_of (Some (lines.Command command)) = Some command
command_of (Some (lines.Ticks k)) = Some commands.Tick
command_of (Some (lines.Frame u)) = None
command_of (Some lines.Save) = None
command_of (Some (lines.SheetOf n)) = None
command_of (Some lines.Quit) = None
command_of (Some lines.Blank) = None

-- and how often, where none is refused
abbrev pub count_of : Option Line → ℕ
count_of None = 0
count_of (Some (lines.Command command)) = 1
count_of (Some (lines.Ticks k)) = k
count_of (Some (lines.Frame u)) = 0
count_of (Some lines.Save) = 0
count_of (Some (lines.SheetOf n)) = 0
count_of (Some lines.Quit) = 0
count_of (Some lines.Blank) = 0

abbrev pub attempts_for : Option ℕ → Option Command → ℕ → DeskState → Attempt
attempts_for failed command n s = option_map_or (λ c. attempts_of failed c n s) command (record { state = s; refusal = None })

-- the attempts of a line of this meaning
abbrev pub tried : Option ℕ → DeskState → Option Line → Attempt
tried failed s meaning = attempts_for failed (command_of meaning) (count_of meaning) s

-- the reply to what a line attempted
abbrev pub replied : {S : Type 0} → Session S → Option Refusal → Session S
replied s refusal = option_map_or (λ r. refused_reply s (refused_text r)) refusal (ok_reply s)

-- a session with the reply to a line of this meaning, where its attempts led to this desk, and were refused so, if they were
abbrev pub with_reply : {S : Type 0} → Session S → Option Line → Desk → Option Refusal → Session S
with_reply s None d refusal = bad_reply s
with_reply s (Some (lines.Command command)) d refusal = replied s refusal
with_reply s (Some (lines.Ticks k)) d refusal = replied s refusal
with_reply s (Some (lines.Frame u)) d refusal = with_text s (frame_text [] d.playback.moment u (frame d u))
with_reply s (Some lines.Save) d refusal = with_text s (show_text d.show)
with_reply s (Some (lines.SheetOf n)) d refusal =
    if is_some (cue_of d.show n) then with_text s (row_text n (row_of d.show n)) else refused_reply s (refused_text (AbsentCue n))
with_reply s (Some lines.Quit) d refusal = s
with_reply s (Some lines.Blank) d refusal = s

-- a session whose state became another by what a line attempted, with the reply to the line
abbrev pub after_attempts : {S T : Type 0} → Session S → Option Line → Attempt → T → Session T
after_attempts s meaning t state = with_reply (record { state = state; text = s.text; counts = s.counts }) meaning t.state.desk t.refusal

-- the session after a line of this meaning
abbrev pub after_meaning : Option ℕ → Session DeskState → Option Line → Session DeskState
after_meaning failed s meaning = let t = tried failed s.state meaning in after_attempts s meaning t t.state

abbrev pub after_line : Option ℕ → Session DeskState → List ℕ → Session DeskState
after_line failed s line = after_meaning failed s (line_of line)

-- the line is an edit that may take memory, and that the desk accepts
pub record IsAcceptedEdit (d : Desk) (meaning : Option Line) : Type 0 where
  pub command : Command
  pub means : meaning ≡ Some (lines.Command command)
  pub takes_some : may_lack_memory command ≡ true
  pub accepted : IsOk (step d command)

-- An attempt may fail at an edit that may take memory and that the desk accepts; and, where not all commands are admitted, at any line.
abbrev pub MayFailAt : Bool → Desk → Option Line → Type 0
MayFailAt true d meaning = IsAcceptedEdit d meaning
MayFailAt false d meaning = Unit {0}

-- a desk answers the lines of a script
abbrev pub desk_answering : (all : Bool) → Answering (List ℕ)
desk_answering all = record { State = DeskState; answer = after_line; MayFail = λ s line. MayFailAt all s.desk (line_of line) }
