-- What an operator sends.
use Rattle.std.specs.Prelude.{◌≡◌, ◌++◌, ◌∷◌, ℕ, Option, Some, None, List, [], if◌then◌else◌}
use Rattle.std.specs.Io.KnownBytes.{IsAtEnd}
use Rattle.lx_io.specs.Causes.{Rose}
use Rattle.lx_io.specs.Told.{ToldBySource}
use Rattle.lx_lex.specs.declared.lines.Lines.{Lines}
use Rattle.lx_lex.specs.declared.lines.Step.TheVariants as steps
use Rattle.lx_lex.specs.CutOff.{NotTaken}
use Rattle.lx_lex.specs.LinesHandedOut.{HandedOut}
use Rattle.lx_lex.specs.Lines.{StepOf}
use Rattle.lx_lex.specs.Unread.{unread, current_line}
use Rattle.lx_spec.specs.Text.{without_cr}
use Rattle.lx_spec.specs.Session.{ends_script}
use Rattle.lx_crew.specs.declared.entry.Message.{Message}
use Rattle.lx_crew.specs.declared.entry.Sent.{Sent}
use Rattle.lx_crew.specs.declared.entry.Sent.TheVariants.{Line, LongLine, End, ReadFault, InputTooLong}
use Rattle.lx_crew.specs.declared.fault.OperatorFault.{OperatorFault}
use Rattle.lx_crew.specs.declared.fault.OperatorFault.TheVariants as ends
use Rattle.lx_crew.specs.declared.follows.Follows.{Follows}
use Rattle.lx_crew.specs.declared.follows.Follows.TheVariants as after
use Rattle.lx_crew.specs.declared.rule.View.{View}
use Rattle.lx_crew.specs.Entries.{HasText, HaveLines, text_in}
use Rattle.lx_crew.specs.Rule.{operator_view}
use Rattle.lx_crew.specs.Scripts.{ScriptHasEnded}

-- one line was handed out, and it is to be sent
pub record TookLine {S : Type 0} (told : ToldBySource S) (old new : Lines S) (sent : Sent) : Type 0 where
  pub raw : List ℕ
  pub handed : HandedOut told old new (raw ∷ [])
  pub text : HasText sent (without_cr raw)

-- what is to be sent, by what was taken
abbrev pub TookNext : {S : Type 0} → ToldBySource S → (old new : Lines S) → Sent → Type 0
TookNext told old new (Line l) = TookLine told old new (Line l)
TookNext told old new LongLine = TookLine told old new LongLine
TookNext told old new End = IsAtEnd (unread told old) × (told.faults new.source.now ≡ told.faults old.source.now)
TookNext told old new ReadFault = NotTaken told old new × Rose (told.faults old.source.now) (told.faults new.source.now)
TookNext told old new InputTooLong =
    NotTaken told old new × StepOf steps.InputTooLong (unread told old) (unread told new) old.taken new.taken (current_line new)
    × (told.faults new.source.now ≡ told.faults old.source.now)

-- what comes after it
abbrev pub follows : Sent → Follows
follows (Line l) = if ends_script (text_in l) then after.End else after.Lines
follows LongLine = after.Lines
follows End = after.Nothing None
follows ReadFault = after.Nothing (Some ends.ReadFault)
follows InputTooLong = after.Nothing (Some ends.InputTooLong)

-- the last entry of an operator, by its fault
abbrev pub last_entry : Option OperatorFault → Sent
last_entry None = End
last_entry (Some ends.ReadFault) = ReadFault
last_entry (Some ends.InputTooLong) = InputTooLong

-- From its source before to its source after the operator's pass pushed its lines, numbered from 1, and then how they ended.
pub record HasSentLines {S : Type 0} (told : ToldBySource S) (place : ℕ) (source source' : S) (v : View)
    (fault : Option OperatorFault) : Type 0 where
  pub lines : List (List ℕ)
  pub entries : List Message
  pub last : Message
  pub view : v ≡ operator_view place (entries ++ last ∷ [])
  pub have : HaveLines place 1 entries lines
  pub own : last.place ≡ place
  pub ends : last.sent ≡ last_entry fault
  pub ended : ScriptHasEnded told source source' fault lines
