-- One line of a session, done and answered.
use Rattle.std.specs.Prelude.{◌≡◌, ℕ, ◌<◌, Bool, true, false, not, Option, Some, None, IfSome, Result, Ok, Err, List, ◌++◌, length, OnOk}
use Rattle.lx_base.specs.declared.TheConstants.{LINE_BYTES}
use Rattle.lx_io.specs.declared.sink.SinkFault.{SinkFault}
use Rattle.lx_io.specs.Puts.{Puts}
use Rattle.lx_io.specs.Told.{ToldBySink}
use Rattle.lx_spec.specs.Session.{Session, Answering, ends_script}
use Rattle.lx_session.specs.declared.tally.Tally.{Tally}
use Rattle.lx_session.specs.LineReply.{counts_in}

-- the text of a line that is given or, being too long, isn't
abbrev pub IsLine : Option (List ℕ) → List ℕ → Type 0
IsLine (Some line) text = line ≡ text
IsLine None text = LINE_BYTES < length text

-- It answers whether the session goes on: it does but at the line that ends the script, at which there is no fault.
abbrev pub GoesOnUnless : (ends : Bool) → Result Bool SinkFault → Type 0
GoesOnUnless ends (Ok more) = more ≡ not ends
GoesOnUnless ends (Err fault) = ends ≡ false

-- a line adds to the text
pub record ExtendsText {S : Type 0} (s next : Session S) : Type 0 where
  pub more : List ℕ
  pub text : next.text ≡ s.text ++ more

-- What holds of the answers to all lines: each only adds to the text, and to the line that ends the script it leaves a session as it was.
pub record IsLawful (by : Answering (List ℕ)) : Type 0 where
  pub extends : (failed : Option ℕ) (s : Session by.State) (line : List ℕ) → ExtendsText s (by.answer failed s line)
  pub ends : (failed : Option ℕ) (s : Session by.State) (line : List ℕ) → ends_script line ≡ true → by.answer failed s line ≡ s

-- The session goes on so by a line, of which that attempt failed, if one did; and it may.
pub record GoesOnBy (by : Answering (List ℕ)) (s next : Session by.State) (line : List ℕ) (failed : Option ℕ) : Type 0 where
  pub is : by.answer failed s line ≡ next
  pub allowed : IfSome failed (λ attempt. by.MayFail s.state line)

-- The line was done: what answers stands for the state after it, and the reply was appended, or at a fault a prefix of it.
pub record OneAnswer {K T : Type 0} (by : Answering (List ℕ)) (told : ToldBySink K) (sink sink' : K)
    (result : Result T SinkFault) (s : Session by.State) (line : List ℕ) (Stands : by.State → Type 0) (tally : Tally) : Type 0 where
  pub next : Session by.State
  pub failed : Option ℕ
  pub goes_on : GoesOnBy by s next line failed
  pub stands : Stands next.state
  pub reply : List ℕ
  pub text : next.text ≡ s.text ++ reply
  pub puts : Puts told sink sink' result reply
  pub counts : OnOk result (next.counts ≡ counts_in tally)
