-- What `make` writes, from the reader's answer and the session's.
use Rattle.lx_desk.proofs.Imports.{◌≡◌, ◌⊎◌, ℕ, ◌+◌, ◌≤◌, true, Option, Some, Ok, Err, IfSome}
use Rattle.lx_desk.proofs.Imports.{List, [], ◌∷◌, ◌++◌, length, sum, refl, sym, ap, ◌∙◌, subst, arith, codes, decimal, Appends, INPUT_BYTES}
use Rattle.lx_desk.proofs.Imports.{Rose, AppendsFront, Lines, unread, Command, Moves, Make, Script, Render, lines_of, Desk, opened, Kept, line}
use Rattle.lx_desk.proofs.Imports.{Session, Counts, whole_session, bytes_wanted, DeskState, begun, desk_answering, Reading, reads, script_of, over_show}
use Rattle.lx_desk.proofs.Imports.{script_session, made_input, made_text, make_output, StandsFor, Tally, HasDone, AnsweredWhole}
use Rattle.lx_desk.proofs.Imports.{Loaded, ShowFault, reading_of, HasRead, Status, WritesFront}
use Rattle.lx_desk.proofs.Imports.{HasEndedBy, ToldBySource, None, JobFailures, ScriptFailures}
use Rattle.lx_desk.proofs.Imports.{SessionFault, KeepsLimit, status_for, Does, HasSessionCause, Refuses, source_faults, known_since, ToldBySink}
use Rattle.lx_session.specs.declared.fault.SessionFault.TheVariants as sessions
use Rattle.lx_spec.specs.Output.{frame}
use Rattle.lx_session.specs.LineReply.{counts_in}
use Rattle.lx_reader.specs.declared.fault.ShowFault.TheVariants as faults
use Rattle.lx_desk.specs.declared.desk.Status.TheVariants as status
use Rattle.lx_desk.specs.declared.make.Report.{Report}
use Rattle.lx_desk.specs.Made.{HasTold, TellsScript, TellsInFront, report_of, report_text}
use Rattle.lx_desk.proofs.EmptyPrefixes.{unwritten}
use Rattle.lx_desk.proofs.Inputs.{IfSome_then, IsOver, IsRead, Over, Says, all_known, allowed, both_known, by_kind, front_nothing, is_ok, none_of_script}
use Rattle.lx_desk.proofs.Inputs.{over_loaded, refusal_ended, script_over, wanted_read}
use Rattle.lx_desk.proofs.Endings.{ended_front, refusal_ends, script_job}
use Rattle.lx_desk.proofs.Finishing.{accounts_beside, accounts_since, dropped_accounts, ends_script, none_accounts, refused_accounts}

-- ---- the session

-- the session of a script at a desk
abbrev made_session : Desk → List (List ℕ) → List (Option ℕ) → Session DeskState
made_session d script failures = whole_session (desk_answering true) (begun d) script failures

-- what the report of a console says, where it is said of each desk that the console stands for
abbrev Reports : ℕ → Kept → Tally → Report → Type 0
Reports cues console tally r = (d : Desk) → StandsFor d console → r ≡ report_of cues d tally

-- the report of the desk at its end
report_is : (cues : ℕ) (s : Session DeskState) (tally : Tally) (r : Report) → r ≡ report_of cues s.state.desk tally
    → counts_in tally ≡ s.counts → report_text r ≡ made_text cues s
report_is cues s tally r is counts =
    ap report_text is
    ∙ ap (λ (c : Counts). line (codes "cues" ∷ decimal cues ∷ []) ++ line (codes "moment" ∷ decimal s.state.desk.playback.moment ∷ [])
    ++ line (codes "ok" ∷ decimal c.ok ∷ []) ++ line (codes "refused" ∷ decimal c.refused ∷ []) ++ line
    (codes "sum" ∷ decimal (sum (frame s.state.desk 1)) ∷ [])) counts

-- a session from a desk on, whose text was dropped: the console stands for the desk at its end
module _ (cues : ℕ) (heard : List Command → Type 0) (d : Desk) (dropped dropped' h h' : Option (List ℕ)) (console : Kept) (tally : Tally)
    (r : Report) (reports : Reports cues console tally r) (most : Option ℕ) where
  abbrev Held : List (List ℕ) → Type 0
  Held script = AnsweredWhole (desk_answering true) most (HasDone heard d console) (begun d) script dropped dropped' tally

  lines_are : {script : List (List ℕ)} (w : Held script)
      → report_text r ≡ made_text cues (made_session d script w.failures)
  lines_are {script} w = report_is cues (made_session d script w.failures) tally r (reports _ w.stands.stands) w.counts

  -- its report was written or not
  pub session_told : (o : Option (List ℕ)) (taken : ℕ) (s : Status) → (s ≡ status.Ok) ⊎ ((s ≡ status.WriteFault) ⊎ (s ≡ status.Memory))
      → (s ≡ status.Ok → Appends h h' (report_text r)) → AppendsFront h h' (report_text r)
      → IfSome o (λ bytes. Held (lines_of bytes)) → IfSome o (λ bytes. taken + length (bytes_wanted bytes) ≤ INPUT_BYTES)
      → IfSome o (λ bytes. HasTold most s cues d taken bytes h h')
  session_told o taken s kinds whole front w fits =
      let part : IfSome o (λ bytes. TellsInFront most cues d (lines_of bytes) h h') = IfSome_then o w (λ x q.
      record { failures = q.failures; allows = record { allows = q.allows; few = q.few }; text = subst (λ (t : List ℕ). AppendsFront h h' t) (lines_are q) front }) in
      by_kind status.Ok s
      (λ t. (t ≡ status.Ok → Appends h h' (report_text r)) → IfSome o (λ bytes. HasTold most t cues d taken bytes h h')) kinds
      (λ all. both_known o w fits (λ x q fit. (
        record { failures = q.failures; allows = record { allows = q.allows; few = q.few }; text = subst (λ (t : List ℕ). Appends h h' t) (lines_are q) (all refl) },
        fit,
      ))) (λ all. part) (λ all. part) whole

-- nothing was written about it
nothing_told : (most : Option ℕ) (cues : ℕ) (d : Desk) (script : List (List ℕ)) (a : Option (List ℕ)) → TellsInFront most cues d script a a
nothing_told most cues d script a = record {
  failures = [];
  allows = none_of_script most (desk_answering true) (begun d) script;
  text = front_nothing a (made_text cues (made_session d script []));
}

-- and of a session that ended by a fault, of which no report is made
fault_told : (most : Option ℕ) (o a : Option (List ℕ)) (cues : ℕ) (d : Desk) (taken : ℕ) (fault : SessionFault)
    → IfSome o (λ bytes. KeepsLimit taken bytes (Err fault))
    → IfSome o (λ bytes. HasTold most (status_for {A = Tally} (Err fault)) cues d taken bytes a a)
fault_told most o a cues d taken sessions.ReadFault limit = IfSome_then o limit (λ x fits. refl)
fault_told most o a cues d taken sessions.InputTooLong limit = IfSome_then o limit (λ x long. (refl, long))
fault_told most o a cues d taken sessions.WriteFault limit = IfSome_then o limit (λ x any. nothing_told most cues d (lines_of x) a)
fault_told most o a cues d taken sessions.Memory limit = IfSome_then o limit (λ x any. nothing_told most cues d (lines_of x) a)

module _ {S K : Type 0} {told_in : ToldBySource S} {told : ToldBySink K} {first after cues : ℕ} {d : Desk} {output : K} where
  -- memory was short at the opening
  pub not_told : {lines : Lines S} → first ≤ after → Rose first after
      → TellsScript told_in told first after cues d lines lines output output status.Memory
  not_told {lines} later rose = record {
    works = tt;
    ended = λ most known. all_known (unread told_in lines) _ (λ x. nothing_told most cues d (lines_of x) (told.holds output));
    accounts = none_accounts later rose;
  }

  -- the session ended by a fault, beside an output that isn't written
  pub fault_tells : (before : ℕ) {D : Type 0} {dropped : ToldBySink D} {old new : Lines S} {sink sink' : D} (fault : SessionFault) → dropped.faults sink' ≡ 0
      → dropped.wants sink' ≡ 0 → first ≤ before → before ≤ after
      → HasSessionCause {T = Tally} told_in dropped old new sink sink' (Err fault)
      → IfSome (unread told_in old) (λ bytes. KeepsLimit old.taken bytes (Err fault))
      → TellsScript told_in told first after cues d old new output output (status_for {A = Tally} (Err fault))
  fault_tells before {old} fault unfailed unwanting opened held cause limit = record {
    works = ends_script (Err fault);
    ended = λ most known. fault_told most (unread told_in old) (told.holds output) cues d old.taken fault limit;
    accounts = dropped_accounts before fault unfailed unwanting opened held cause;
  }

-- ---- the job

-- memory was short before the input was made
pub not_made : {K : Type 0} {told : ToldBySink K} {before after n : ℕ} {left : Option (List ℕ)} {reads : ℕ} {output : K} → before ≤ after
    → Rose before after → Does told before after (Make n) (Some []) left reads reads output output status.Memory
not_made {told} {n} {output} later rose = record {
  works = tt;
  ended = λ most known. unwritten most (Make n) [] (told.holds output);
  prefix = unwritten None (Make n) [] (told.holds output);
  accounts = none_accounts later rose;
}

-- attempts failed of this job as of the script that it answers
made_allows : (most : Option ℕ) (n : ℕ) (failures : List (Option ℕ)) → JobFailures most (Script Render Moves) (made_input n) failures
    → JobFailures most (Make n) [] failures
made_allows most n failures f = record { allows = f.allows; few = f.few }

-- its show was read
module _ (n : ℕ) {y : List ℕ} {taken : ℕ} {reading : Reading} (v : IsRead Moves (made_input n) y taken reading) (most : Option ℕ)
    (rest h h' : Option (List ℕ)) where
  allows_of : (failures : List (Option ℕ)) → ScriptFailures most (desk_answering true) (begun (opened reading.show)) (lines_of y) failures
      → JobFailures most (Make n) [] failures
  allows_of failures allows = made_allows most n failures (allowed v most Render failures allows)

  script_text : (failures : List (Option ℕ)) → make_output n failures ≡ made_text n (made_session (opened reading.show) (lines_of y) failures)
  script_text failures =
      ap (λ r. over_show r (λ x. made_text n (made_session (opened x.show) (script_of (made_input n)) failures))) v.read
      ∙ ap (λ ls. made_text n (made_session (opened reading.show) ls failures)) v.script

  made_front : TellsInFront most n (opened reading.show) (lines_of y) h h' → WritesFront most (Make n) [] h h'
  made_front t = record {
    failures = t.failures;
    allows = allows_of t.failures t.allows;
    text = subst (λ (w : List ℕ). AppendsFront h h' w) (sym (script_text t.failures)) t.text;
  }

  made_ended : (s : Status) → HasTold most s n (opened reading.show) taken y h h' → HasEndedBy most s (Make n) [] rest h h'
  made_ended status.Ok p = (
    record {
      text = record {
        failures = p.0.failures;
        allows = allows_of p.0.failures p.0.allows;
        text = subst (λ (w : List ℕ). Appends h h' w) (sym (script_text p.0.failures)) p.0.text;
      };
      within = let w = p.1 in omega (arith, wanted_read v, w);
    },
    is_ok v,
  )
  made_ended status.ReadFault p = p
  made_ended status.WriteFault p = made_front p
  made_ended status.Memory p = made_front p
  made_ended status.InputTooLong p = (p.0, let l = p.1 in omega (arith, wanted_read v, l))
  made_ended s p = absurd p

-- The job, over lines that hand out the input that is made of a number.
module _ (n : ℕ) {S K : Type 0} (told_in : ToldBySource S) (a b : Lines S) (is : unread told_in a ≡ Some (made_input n)) (none : a.taken ≡ 0)
    {told : ToldBySink K} {first before : ℕ} {rest : Option (List ℕ)} {reads : ℕ} {output output' : K} {s : Status} where
  pub made_does : {after : ℕ} {loaded : Loaded} {d : Lines S} → HasRead told_in a b Moves loaded → first ≤ before
      → source_faults told_in b ≡ 0 → source_faults told_in d ≡ 0
      → TellsScript told_in told before after n (opened loaded.show) b d output output' s
      → Does told first after (Make n) (Some []) rest reads reads output output' s
  made_does {after} {loaded} r held none_before none_behind t =
      let h = told.holds output in
      let h' = told.holds output' in
      let works = script_job s t.works in
      record {
        works = works;
        ended = λ most known. ended_by most (t.ended most (known_since most first before after held known));
        prefix = ended_front (Make n) [] rest h h' s works (ended_by None (t.ended None tt));
        accounts = accounts_beside none_before none_behind (accounts_since held refl t.accounts);
      }
    where
      ended_by : (most : Option ℕ) → IfSome (unread told_in b) (λ y. HasTold most s n (opened loaded.show) b.taken y (told.holds output) (told.holds output'))
          → HasEndedBy most s (Make n) [] rest (told.holds output) (told.holds output')
      ended_by most p = subst (λ o. IfSome o (λ x. x ≡ made_input n → HasEndedBy most s (Make n) [] rest (told.holds output) (told.holds output')))
          is (over_loaded r none p (λ x y v q e. made_ended n (subst (λ w. IsRead Moves w y b.taken (reading_of loaded)) e v) most rest
          (told.holds output) (told.holds output') s q)) refl

  -- it wasn't read
  pub refused_makes : {fault : ShowFault} → Says Moves told_in a b fault → (fault ≡ faults.ReadFault → Rose 0 0)
      → (fault ≡ faults.Memory → Rose first before) → first ≤ before → Refuses told fault output output' s
      → Does told first before (Make n) (Some []) rest reads reads output output' s
  refused_makes says read short held t =
      let h = told.holds output in
      let h' = told.holds output' in
      let works = refusal_ends t.refused in
      let ended = λ (most : Option ℕ). subst (λ o. IfSome o (λ x. HasEndedBy most s (Make n) [] rest h h')) is (refusal_ended most over says t.refused) in
      record {
        works = works;
        ended = λ most known. ended most;
        prefix = ended_front (Make n) [] rest h h' s works (ended None);
        accounts = accounts_beside refl refl (refused_accounts t read (λ other. refl) short held);
      }
    where
      over : Over Moves told_in a b (Make n) (λ x. []) rest
      over = record {
        known = subst (λ o. IfSome o (λ x. IsOver Moves (Make n) x [] (told_in.left b.source.now) rest)) (sym is) (record {
          show = refl;
          refusal = λ fault text. ap (λ r. over_show r (λ x. made_text n (script_session Render (made_input n) [] x))) text;
          wanted = (script_over Moves Render (made_input n) rest).wanted;
          longer = (script_over Moves Render (made_input n) rest).longer;
          cut = λ most h short. refl;
        });
        none = none;
      }
