-- What taking a line comes to, from its parts.
use Rattle.lx_session.proofs.Imports.{◌≡◌, inl, inr, ℕ, Bool, true, false, not, Option, Some, None, Result, Ok, Err, IfOk, IsErr, IsErrAnd, IfSome}
use Rattle.lx_session.proofs.Imports.{List, [], ◌∷◌, ◌++◌, length, refl, sym, ap, ◌∙◌, subst, arith, append-nil, length-append, Appends, IsAtEnd, Keeps}
use Rattle.lx_session.proofs.Imports.{Appends-trans, Keeps-trans, SinkFault, Puts, AppendsFront-is, Lines, HandedOut, unread, without_cr, Session, Answering}
use Rattle.lx_session.proofs.Imports.{ends_script, Tally, Known, GoesOnUnless, IsLine, IsLawful, OneAnswer, DoneLine, QuitLine, Untouched, SinkStop}
use Rattle.lx_session.proofs.Imports.{FromSession, LineOutcome, ToldBySink, ToldBySource, IfErr-at_err, IfOk-at_ok}
use Rattle.std.proofs.Math.Bool.{not-not}
use Rattle.std.proofs.Math.Seq.{take-nil}
use Rattle.std.proofs.lemmas.Result.{err_from_is_err_and}
use Rattle.lx_io.specs.Causes.{Rose}
use Rattle.lx_io.specs.Puts.{HasSinkCause}
use Rattle.lx_io.specs.declared.sink.SinkFault.TheVariants as sinks
use Rattle.lx_session.specs.SessionFaults.{fault_of}
use Rattle.lx_session.specs.SessionOutcome.{HasSessionCause}
use Rattle.lx_session.proofs.Fronts.{kept_appends, front_then}

-- the answer that `?` makes of a fault
pub failed_as : {T E : Type 0} (r : Result T E) {fault : E} → IsErr r × IsErrAnd r (λ own. own ≡ fault) → r ≡ Err fault
failed_as r is = let e = err_from_is_err_and r is.1 in e.1 ∙ ap Err e.2

same_after : {A : Type 0} (xs ys : List A) → xs ≡ xs ++ ys → ys ≡ []
same_after xs [] e = refl
same_after xs (y ∷ ys) e = absurd (omega (arith, ap length e, length-append xs (y ∷ ys)))

-- nothing was written where the reply is empty
keeps_at : (a b : Option (List ℕ)) → Appends a b [] → Keeps a b
keeps_at None b p = tt
keeps_at (Some x) None p = p
keeps_at (Some x) (Some y) p = p ∙ append-nil x

nothing_put : {K T : Type 0} (told : ToldBySink K) (sink sink' : K) (result : Result T SinkFault) → Puts told sink sink' result []
    → Keeps (told.holds sink) (told.holds sink')
nothing_put told sink sink' (Ok x) puts = keeps_at (told.holds sink) (told.holds sink') puts.whole
nothing_put told sink sink' (Err fault) puts =
    let front = AppendsFront-is (told.holds sink) (told.holds sink') [] puts.part in
    keeps_at (told.holds sink) (told.holds sink') (subst (λ (t : List ℕ). Appends (told.holds sink) (told.holds sink') t) (take-nil front.0) front.1)

-- the line that was taken, as it is given to what answers
pub record TakenLine {S : Type 0} (told : ToldBySource S) (old new : Lines S) (given : Option (List ℕ)) : Type 0 where
  pub raw : List ℕ
  pub handed : HandedOut told old new (raw ∷ [])
  pub is : IsLine given (without_cr raw)

-- A line was taken, after bytes of the sink were kept, and answered.
pub record LineIsAnswered {S K Since : Type 0} (by : Answering (List ℕ)) (Stood Stands : Since → by.State → Type 0) (source : ToldBySource S)
    (old new : Lines S) (told : ToldBySink K) (start sink sink' : K) (result : Result Bool SinkFault) (counted tally : Tally) : Type 0 where
  pub raw : List ℕ
  pub handed : HandedOut source old new (raw ∷ [])
  pub lawful : IsLawful by
  pub kept : Keeps (told.holds start) (told.holds sink)
  pub answered : FromSession Stood counted (λ since s. OneAnswer by told sink sink' result s (without_cr raw) (Stands since) tally)
  pub ends : GoesOnUnless (ends_script (without_cr raw)) result

-- the sink's fault is the session's
sink_failed : {S Since : Type 0} (by : Answering (List ℕ)) (Stood Stands : Since → by.State → Type 0) (told : ToldBySource S) (old new : Lines S)
    (h h' : Known) (counted tally : Tally) (fault : SinkFault) → FromSession Stood counted (λ since s. SinkStop by (Stands since) told old new h h' s)
    → LineOutcome by Stood Stands told old new h h' counted tally (Err (fault_of fault))
sink_failed by Stood Stands told old new h h' counted tally sinks.Failed stop = stop
sink_failed by Stood Stands told old new h h' counted tally sinks.Memory stop = stop

module _ {S K Since : Type 0} {by : Answering (List ℕ)} {Stood Stands : Since → by.State → Type 0} {source : ToldBySource S}
    {old new : Lines S} {told : ToldBySink K} {start sink sink' : K} {result : Result Bool SinkFault} {counted tally : Tally}
    (t : LineIsAnswered by Stood Stands source old new told start sink sink' result counted tally) where
  abbrev line : List ℕ
  line = without_cr t.raw

  abbrev Answer : Since → Session by.State → Type 0
  Answer since s = OneAnswer by told sink sink' result s line (Stands since) tally

  -- whether the line ends the script, as its answer tells
  ends_as : (b : Bool) → result ≡ Ok b → ends_script line ≡ not b
  ends_as b was = sym (ap not (subst (GoesOnUnless (ends_script line)) was t.ends) ∙ not-not (ends_script line))

  abbrev goes_on : (since : Since) (s : Session by.State) (a : Answer since s) → ends_script line ≡ false → DoneLine by (Stands since) s line a.reply
  goes_on since s a more =
      record { more = more; lawful = t.lawful; next = a.next; failed = a.failed; goes_on = a.goes_on; stands = a.stands; text = a.text }

  -- the line that ends the script leaves the session as it was, whatever the sink answers
  quits_as : (since : Since) (s : Session by.State) (a : Answer since s) → ends_script line ≡ true
      → (s ≡ a.next) × Untouched (Stands since) (told.holds start) (told.holds sink') s
  quits_as since s a quits =
      let same : s ≡ a.next = sym (t.lawful.ends a.failed s line quits) ∙ a.goes_on.is in
      let none : a.reply ≡ [] = same_after s.text a.reply (ap (λ (v : Session by.State). v.text) same ∙ a.text) in (
        same,
        record {
          kept = Keeps-trans (told.holds start) (told.holds sink) (told.holds sink') t.kept
              (nothing_put told sink sink' result (subst (λ (v : List ℕ). Puts told sink sink' result v) none a.puts));
          stands = subst (λ (v : Session by.State). Stands since v.state) (sym same) a.stands;
        },
      )

  quit_line : ends_script line ≡ true → QuitLine source old new
  quit_line quits = record { raw = t.raw; handed = t.handed; quits = quits }

  -- more is to come
  pub replied : result ≡ Ok true → LineOutcome by Stood Stands source old new (told.holds start) (told.holds sink') counted tally (Ok true)
  replied was = (
    record { raw = t.raw; handed = t.handed; more = ends_as true was },
    λ since s stands counts.
        let a = t.answered since s stands counts in record {
          raw = t.raw;
          handed = t.handed;
          whole = record {
            reply = a.reply;
            done = goes_on since s a (ends_as true was);
            appended = Appends-trans (told.holds start) (told.holds sink) (told.holds sink') [] a.reply
                (kept_appends (told.holds start) (told.holds sink) t.kept) (IfOk-at_ok _ was a.puts.whole);
            counts = IfOk-at_ok _ was a.counts;
          };
        },
  )

  -- or the line is `quit`, and the sink was flushed
  pub ended : (held : Known) → result ≡ Ok false → Keeps (told.holds sink') held
      → LineOutcome by Stood Stands source old new (told.holds start) held counted tally (Ok false)
  ended held was kept = (
    inr (quit_line (ends_as false was)),
    λ since s stands counts.
        let a = t.answered since s stands counts in
        let e = quits_as since s a (ends_as false was) in record {
          same = record { kept = Keeps-trans (told.holds start) (told.holds sink') held e.1.kept kept; stands = e.1.stands };
          counts = ap (λ (v : Session by.State). v.counts) e.0 ∙ IfOk-at_ok _ was a.counts;
        },
  )

  -- or it failed at that
  pub unflushed : (held : Known) (fault : SinkFault) → result ≡ Ok false → Keeps (told.holds sink') held
      → LineOutcome by Stood Stands source old new (told.holds start) held counted tally (Err (fault_of fault))
  unflushed held fault was kept = sink_failed by Stood Stands source old new (told.holds start) held counted tally fault
      (λ since s stands counts. inl (((ended held was kept).1 since s stands counts).same, inr (quit_line (ends_as false was))))

  -- or within the reply
  pub unwritten : (fault : SinkFault) → result ≡ Err fault
      → LineOutcome by Stood Stands source old new (told.holds start) (told.holds sink') counted tally (Err (fault_of fault))
  unwritten fault was = sink_failed by Stood Stands source old new (told.holds start) (told.holds sink') counted tally fault
      (λ since s stands counts.
      let a = t.answered since s stands counts in inr (record {
        raw = t.raw;
        handed = t.handed;
        part = record {
          reply = a.reply;
          done = goes_on since s a (subst (GoesOnUnless (ends_script line)) was t.ends);
          front = front_then (told.holds start) (told.holds sink) (told.holds sink') [] a.reply
              (kept_appends (told.holds start) (told.holds sink) t.kept) (IfErr-at_err _ was a.puts.part);
        };
      }))

none_left : (a b : Option (List ℕ)) → IsAtEnd a → IsAtEnd b → IfSome a (λ xs. IfSome b (λ ys. xs ≡ ys))
none_left None b p q = tt
none_left (Some x) None p q = tt
none_left (Some x) (Some y) p q = p ∙ sym q

-- or at the end of the input
pub end_unflushed : {S Since : Type 0} (by : Answering (List ℕ)) (Stands : Since → by.State → Type 0) (told : ToldBySource S) (old new : Lines S)
    (h h' : Known) (counted : Tally) (fault : SinkFault) → Keeps h h' → IsAtEnd (unread told old) → IsAtEnd (unread told new)
    → LineOutcome by Stands Stands told old new h h' counted counted (Err (fault_of fault))
end_unflushed by Stands told old new h h' counted fault kept end end' = sink_failed by Stands Stands told old new h h' counted counted fault
    (λ since s stands counts. inl (record { kept = kept; stands = stands }, inl (none_left (unread told old) (unread told new) end end')))

-- counts that two calls kept
pub kept_then : {a b c d e f : ℕ} → (b ≡ a) × (e ≡ d) → (c ≡ b) × (f ≡ e) → (c ≡ a) × (f ≡ d)
kept_then p q = (q.0 ∙ p.0, q.1 ∙ p.1)

-- The causes of how a line ended: the sink failed, after it had kept its counts, and no read did.
pub sink_cause : {S K T U : Type 0} {source : ToldBySource S} {told : ToldBySink K} {old new : Lines S} {a b c : K} {fault : SinkFault}
    → source.faults new.source.now ≡ source.faults old.source.now → (told.faults b ≡ told.faults a) × (told.wants b ≡ told.wants a)
    → HasSinkCause {T = U} told b c (Err fault) → HasSessionCause {T = T} source told old new a c (Err (fault_of fault))
sink_cause {told = told} {c = c} {fault = sinks.Failed} reads kept cause = record {
  later = omega (arith, reads);
  sink_later = omega (arith, cause.later, kept.0);
  wants_later = omega (arith, cause.wants_later, kept.1);
  failed = subst (λ n. Rose n (told.faults c)) kept.0 (cause.failed refl);
  alone = reads;
  kept = tt;
}
sink_cause {told = told} {c = c} {fault = sinks.Memory} reads kept cause = record {
  later = omega (arith, reads);
  sink_later = omega (arith, cause.later, kept.0);
  wants_later = omega (arith, cause.wants_later, kept.1);
  failed = subst (λ n. Rose n (told.wants c)) kept.1 (cause.memory refl);
  alone = reads;
  kept = tt;
}

-- or neither failed
pub kept_cause : {S K T : Type 0} {source : ToldBySource S} {told : ToldBySink K} {old new : Lines S} {a c : K} {x : T}
    → source.faults new.source.now ≡ source.faults old.source.now → (told.faults c ≡ told.faults a) × (told.wants c ≡ told.wants a)
    → HasSessionCause source told old new a c (Ok x)
kept_cause reads kept = record {
  later = omega (arith, reads);
  sink_later = omega (arith, kept.0);
  wants_later = omega (arith, kept.1);
  failed = tt;
  alone = tt;
  kept = (reads, kept.0, kept.1);
}
