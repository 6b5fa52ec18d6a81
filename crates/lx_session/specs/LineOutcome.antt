-- What taking a line from a source and answering it comes to, in a session.
use Rattle.std.specs.Prelude.{◌≡◌, ◌⊎◌, ℕ, Bool, true, false, Option, IfSome, Result, Ok, Err, List, [], ◌∷◌, ◌++◌}
use Rattle.std.specs.Io.KnownBytes.{Appends, Keeps, IsAtEnd}
use Rattle.lx_io.specs.Puts.{AppendsFront}
use Rattle.lx_io.specs.Told.{ToldBySource}
use Rattle.lx_lex.specs.declared.lines.Lines.{Lines}
use Rattle.lx_lex.specs.declared.lines.Step.TheVariants as steps
use Rattle.lx_lex.specs.CutOff.{NotTaken}
use Rattle.lx_lex.specs.LinesHandedOut.{HandedOut}
use Rattle.lx_lex.specs.Lines.{StepOf}
use Rattle.lx_lex.specs.Unread.{unread, current_line}
use Rattle.lx_spec.specs.Text.{without_cr}
use Rattle.lx_spec.specs.Session.{Session, Answering, ends_script}
use Rattle.lx_session.specs.declared.fault.SessionFault.{SessionFault}
use Rattle.lx_session.specs.declared.fault.SessionFault.TheVariants.{ReadFault, WriteFault, InputTooLong, Memory}
use Rattle.lx_session.specs.declared.tally.Tally.{Tally}
use Rattle.lx_session.specs.Known.{Known}
use Rattle.lx_session.specs.LineReply.{counts_in}
use Rattle.lx_session.specs.OneAnswer.{IsLawful, GoesOnBy}

-- The session went on by a line, and what answers stands for the state after it, with this reply.
pub record DoneLine (by : Answering (List ℕ)) (Stands : by.State → Type 0)
    (s : Session by.State) (line reply : List ℕ) : Type 0 where
  pub more : ends_script line ≡ false
  pub lawful : IsLawful by
  pub next : Session by.State
  pub failed : Option ℕ
  pub goes_on : GoesOnBy by s next line failed
  pub stands : Stands next.state
  pub text : next.text ≡ s.text ++ reply

-- the whole reply was written
pub record WholeReply (by : Answering (List ℕ)) (Stands : by.State → Type 0)
    (held held' : Known) (s : Session by.State) (line : List ℕ) (tally : Tally) : Type 0 where
  pub reply : List ℕ
  pub done : DoneLine by Stands s line reply
  pub appended : Appends held held' reply
  pub counts : done.next.counts ≡ counts_in tally

-- a prefix of the reply was written
pub record ReplyPrefix (by : Answering (List ℕ)) (Stands : by.State → Type 0)
    (held held' : Known) (s : Session by.State) (line : List ℕ) : Type 0 where
  pub reply : List ℕ
  pub done : DoneLine by Stands s line reply
  pub front : AppendsFront held held' reply

-- one line was handed out, which doesn't end the script
pub record PassedLine {S : Type 0} (told : ToldBySource S) (old new : Lines S) : Type 0 where
  pub raw : List ℕ
  pub handed : HandedOut told old new (raw ∷ [])
  pub more : ends_script (without_cr raw) ≡ false

-- one line was handed out, which ends the script
pub record QuitLine {S : Type 0} (told : ToldBySource S) (old new : Lines S) : Type 0 where
  pub raw : List ℕ
  pub handed : HandedOut told old new (raw ∷ [])
  pub quits : ends_script (without_cr raw) ≡ true

-- one line was handed out and done, and its whole reply was written
pub record AnsweredLine {S : Type 0} (by : Answering (List ℕ)) (Stands : by.State → Type 0)
    (told : ToldBySource S) (old new : Lines S) (held held' : Known) (s : Session by.State) (tally : Tally) : Type 0 where
  pub raw : List ℕ
  pub handed : HandedOut told old new (raw ∷ [])
  pub whole : WholeReply by Stands held held' s (without_cr raw) tally

-- one line was handed out and done, and a prefix of its reply was written
pub record HalfAnsweredLine {S : Type 0} (by : Answering (List ℕ)) (Stands : by.State → Type 0)
    (told : ToldBySource S) (old new : Lines S) (held held' : Known) (s : Session by.State) : Type 0 where
  pub raw : List ℕ
  pub handed : HandedOut told old new (raw ∷ [])
  pub part : ReplyPrefix by Stands held held' s (without_cr raw)

-- no line was done and nothing was written
pub record Untouched {State : Type 0} (Stands : State → Type 0) (held held' : Known) (s : Session State) : Type 0 where
  pub kept : Keeps held held'
  pub stands : Stands s.state

-- and the counts are as they were
pub record ScriptEnd {State : Type 0} (Stands : State → Type 0) (held held' : Known) (s : Session State) (tally : Tally) : Type 0 where
  pub same : Untouched Stands held held' s
  pub counts : s.counts ≡ counts_in tally

-- no line more was taken, or the one that ends the script
abbrev pub NoLineMore : {S : Type 0} → ToldBySource S → (old new : Lines S) → Type 0
NoLineMore told old new = IfSome (unread told old) (λ xs. IfSome (unread told new) (λ ys. xs ≡ ys)) ⊎ QuitLine told old new

-- the sink failed: no line was done and nothing more written, or a line was done and a prefix of its reply written
abbrev pub SinkStop : {S : Type 0} → (by : Answering (List ℕ)) → (by.State → Type 0) → ToldBySource S
    → (old new : Lines S) → (held held' : Known) → Session by.State → Type 0
SinkStop by Stands told old new held held' s =
    (Untouched Stands held held' s × NoLineMore told old new)
    ⊎ HalfAnsweredLine by Stands told old new held held' s

-- What holds of a session at whose state what answers stood, since it began so, and which had counted this many.
abbrev pub FromSession : {Since State : Type 0} → (Since → State → Type 0) → Tally → (Since → Session State → Type 0) → Type 0
FromSession {Since} {State} Stood tally P = (since : Since) (s : Session State) → Stood since s.state → s.counts ≡ counts_in tally → P since s

-- the script couldn't be read on
pub record UnreadLine {S Since State : Type 0} (Stood Stands : Since → State → Type 0) (told : ToldBySource S) (old new : Lines S) (held held' : Known)
    (counted : Tally) : Type 0 where
  pub cut : NotTaken told old new
  pub same : FromSession Stood counted (λ since s. Untouched (Stands since) held held' s)

abbrev pub FaultOutcome : {S Since : Type 0} → (by : Answering (List ℕ)) → (Stood Stands : Since → by.State → Type 0) → ToldBySource S
    → (old new : Lines S) → (held held' : Known) → Tally → SessionFault → Type 0
FaultOutcome by Stood Stands told old new held held' counted ReadFault =
    UnreadLine Stood Stands told old new held held' counted
FaultOutcome by Stood Stands told old new held held' counted InputTooLong =
    UnreadLine Stood Stands told old new held held' counted
    × StepOf steps.InputTooLong (unread told old) (unread told new) old.taken new.taken (current_line new)
FaultOutcome by Stood Stands told old new held held' counted WriteFault =
    FromSession Stood counted (λ since s. SinkStop by (Stands since) told old new held held' s)
FaultOutcome by Stood Stands told old new held held' counted Memory =
    FromSession Stood counted (λ since s. SinkStop by (Stands since) told old new held held' s)

-- Ok(true): a line was answered, and the session goes on. Ok(false): the script has ended.
abbrev pub LineOutcome : {S Since : Type 0} → (by : Answering (List ℕ)) → (Stood Stands : Since → by.State → Type 0) → ToldBySource S
    → (old new : Lines S) → (held held' : Known) → (counted tally : Tally) → Result Bool SessionFault → Type 0
LineOutcome by Stood Stands told old new held held' counted tally (Ok true) =
    PassedLine told old new
    × FromSession Stood counted (λ since s. AnsweredLine by (Stands since) told old new held held' s tally)
LineOutcome by Stood Stands told old new held held' counted tally (Ok false) =
    (IsAtEnd (unread told old) ⊎ QuitLine told old new)
    × FromSession Stood counted (λ since s. ScriptEnd (Stands since) held held' s tally)
LineOutcome by Stood Stands told old new held held' counted tally (Err fault) =
    FaultOutcome by Stood Stands told old new held held' counted fault
