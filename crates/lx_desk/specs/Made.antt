-- What `make` writes about a session, and what holds where it ended.
use Rattle.std.specs.Prelude.{◌≡◌, ℕ, ◌+◌, ◌<◌, ◌≤◌, true, IfSome, Option, List, [], ◌∷◌, ◌++◌, length, sum, codes, decimal}
use Rattle.std.specs.Io.KnownBytes.{Appends}
use Rattle.lx_base.specs.declared.TheConstants.{INPUT_BYTES}
use Rattle.lx_io.specs.Puts.{AppendsFront}
use Rattle.lx_io.specs.Told.{ToldBySink, ToldBySource}
use Rattle.lx_lex.specs.declared.lines.Lines.{Lines}
use Rattle.lx_lex.specs.Unread.{source_faults, unread}
use Rattle.lx_spec.specs.Text.{lines_of}
use Rattle.lx_spec.specs.Desk.{Desk}
use Rattle.lx_spec.specs.Output.{frame}
use Rattle.lx_spec.specs.ShowText.{line}
use Rattle.lx_spec.specs.Session.{whole_session, bytes_wanted}
use Rattle.lx_spec.specs.DeskSession.{begun, desk_answering}
use Rattle.lx_spec.specs.MakeOutput.{made_text}
use Rattle.lx_session.specs.Spared.{ByRefusals}
use Rattle.lx_session.specs.declared.tally.Tally.{Tally}
use Rattle.lx_desk.specs.declared.desk.Status.{Status}
use Rattle.lx_desk.specs.declared.desk.Status.TheVariants as status
use Rattle.lx_desk.specs.declared.make.Report.{Report}
use Rattle.lx_desk.specs.Done.{Accounts}
use Rattle.lx_desk.specs.Endings.{EndsScript}
use Rattle.lx_desk.specs.Output.{ScriptFailures}

-- the five lines
abbrev pub report_text : Report → List ℕ
report_text r =
    line (codes "cues" ∷ decimal r.cues ∷ []) ++ line (codes "moment" ∷ decimal r.moment ∷ []) ++ line (codes "ok" ∷ decimal r.ok ∷ [])
    ++ line (codes "refused" ∷ decimal r.refused ∷ []) ++ line (codes "sum" ∷ decimal r.sum ∷ [])

-- what there is to tell of a desk after this many replies
abbrev pub report_of : ℕ → Desk → Tally → Report
report_of cues d tally = record { cues = cues; moment = d.playback.moment; ok = tally.ok; refused = tally.refused; sum = sum (frame d 1) }

-- The lines about the session of a script were written, wholly or a prefix of them, where these attempts failed.
pub record TellsSession (most : Option ℕ) (cues : ℕ) (d : Desk) (script : List (List ℕ)) (held held' : Option (List ℕ)) : Type 0 where
  pub failures : List (Option ℕ)
  pub allows : ScriptFailures most (desk_answering true) (begun d) script failures
  pub text : Appends held held' (made_text cues (whole_session (desk_answering true) (begun d) script failures))

pub record TellsInFront (most : Option ℕ) (cues : ℕ) (d : Desk) (script : List (List ℕ)) (held held' : Option (List ℕ)) : Type 0 where
  pub failures : List (Option ℕ)
  pub allows : ScriptFailures most (desk_answering true) (begun d) script failures
  pub text : AppendsFront held held' (made_text cues (whole_session (desk_answering true) (begun d) script failures))

-- What was written about a session, by the status: where the script couldn't be read on, nothing.
abbrev pub HasTold : (most : Option ℕ) → Status → ℕ → Desk → ℕ → List ℕ → Option (List ℕ) → Option (List ℕ) → Type 0
HasTold most status.Ok cues d before bytes held held' =
    TellsSession most cues d (lines_of bytes) held held' × (before + length (bytes_wanted bytes) ≤ INPUT_BYTES)
HasTold most status.ReadFault cues d before bytes held held' = held' ≡ held
HasTold most status.InputTooLong cues d before bytes held held' = (held' ≡ held) × (INPUT_BYTES < before + length (bytes_wanted bytes))
HasTold most status.WriteFault cues d before bytes held held' = TellsInFront most cues d (lines_of bytes) held held'
HasTold most status.Memory cues d before bytes held held' = TellsInFront most cues d (lines_of bytes) held held'
HasTold most other cues d before bytes held held' = ⊥

-- The script that is left was answered over a desk, from lines to lines, and its replies were dropped; the lines about its session were
-- written, as far as its status says, while a heap's count of refusals went from one number to another.
pub record TellsScript {S K : Type 0} (told_in : ToldBySource S) (told : ToldBySink K) (refusals refusals' cues : ℕ) (d : Desk) (old new : Lines S)
    (output output' : K) (s : Status) : Type 0 where
  pub works : EndsScript s
  pub ended : ByRefusals refusals refusals' (λ most. IfSome (unread told_in old)
      (λ bytes. HasTold most s cues d old.taken bytes (told.holds output) (told.holds output')))
  pub accounts : Accounts told refusals refusals' (source_faults told_in old) (source_faults told_in new) output output' s
  pub open accounts use *
