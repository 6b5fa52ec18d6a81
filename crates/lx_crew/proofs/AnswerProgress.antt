-- What is answered so far, and with one more entry.
use Rattle.lx_crew.proofs.Imports.{◌≡◌, inl, inr, ℕ, Bool, false, true≢false, Option, Some, None, Result, Ok, Err, List, [], ◌∷◌}
use Rattle.lx_crew.proofs.Imports.{◌++◌, refl, sym, ap, ◌∙◌, subst, append-nil, append_assoc, arith}
use Rattle.lx_crew.proofs.Imports.{length-append, IfSome, is_some, Appends, Keeps, SinkFault, AppendsFront}
use Rattle.lx_crew.proofs.Imports.{CrewEntry, op_text, named, after_entry, crew_answering, crew_text, Desk, Kept, line_of, Session, begin_at}
use Rattle.lx_crew.proofs.Imports.{DeskState, begun, IsAcceptedEdit, StandsFor, Tally, extends_line, Message, Line, LongLine, text_in, long_line}
use Rattle.lx_crew.proofs.Imports.{named_line, entries_of, said, NamedAnswer, AnswersNamed, IsDoneWithEntries, AnsweredAll, AnsweredPart, HasAnswered}
use Rattle.lx_crew.proofs.Imports.{ToldBySink, true, ◌≤◌, IsAmple, pays_on, take_at, AppendsAtLeast, crew_session, all_but_last}
use Rattle.lx_crew.proofs.Imports.{text_to_last_name, HasStopped, HasSinkCause, NoneFailed, WroteUnfailed, ◌⊎◌}
use Rattle.std.specs.Result.{result_err}
use Rattle.std.proofs.KnownBytes.{Appends-nil, Appends-trans, Appends-kept}
use Rattle.std.proofs.lemmas.Grind.{flat_map-append}
use Rattle.lx_crew.proofs.Lists.{long_means}
use Rattle.lx_session.proofs.Fronts.{front_more, front_whole, front_then, at_least_then}
use Rattle.lx_crew.proofs.LastEntries.{at_least, at_least_first, names_written, session_before, text_before}
use Rattle.lx_session.specs.LineAnswer.{FromDesk}
use Rattle.lx_session.specs.LineReply.{counts_in}
use Rattle.lx_session.specs.LineState.{meaning_of}
use Rattle.lx_session.proofs.EachLine.{each-append, allowed-append}
use Rattle.lx_crew.specs.declared.entry.LineText.{LineText}

-- One more entry, of which this attempt failed, if one did. Where the heap refused nothing none did.
done_more : {before refusals refusals' : ℕ} {d : Desk} {entries : List CrewEntry} {failures : List (Option ℕ)} {now next : Session DeskState}
    (e : CrewEntry) (failed : Option ℕ) → IsDoneWithEntries before refusals d entries failures now → after_entry failed now e ≡ next
    → IfSome failed (λ attempt. IsAcceptedEdit now.state.desk (line_of e.line)) → refusals ≤ refusals'
    → (IsAmple true refusals refusals' → failed ≡ None)
    → IsDoneWithEntries before refusals' d (entries ++ e ∷ []) (failures ++ failed ∷ []) next
done_more {before} {refusals} {refusals'} {d} {entries} {failures} e failed done is may later none =
    let s = begin_at (begun d) in
    record {
      each = omega (arith, done.each, length-append failures (failed ∷ []), length-append entries (e ∷ []));
      is = each-append crew_answering failures (failed ∷ []) s entries (e ∷ []) done.each ∙ ap (λ t. after_entry failed t e) done.is ∙ is;
      allows = allowed-append crew_answering failures (failed ∷ []) s entries (e ∷ []) done.each done.allows (rw done.is (may, tt));
      few = pays_on true true before refusals refusals' failures failed (λ all. all) later
          (λ ample. none ((take_at {all = true} true refusals refusals' (λ all. all)).memory ample)) (λ all. done.few) refl;
    }

-- What is said of one more.
said_more : (popped : List Message) (e : Message) (more : List CrewEntry) → entries_of e.place e.number e.sent ≡ more
    → said (popped ++ e ∷ []) ≡ said popped ++ more
said_more popped e more is =
    flat_map-append (λ (x : Message). entries_of x.place x.number x.sent) popped (e ∷ [])
    ∙ ap (λ (l : List CrewEntry). said popped ++ l) (append-nil (entries_of e.place e.number e.sent) ∙ is)

-- none failed in two steps, one after the other
none_failed_then : {K : Type 0} (told : ToldBySink K) {a b c : K} → NoneFailed told a b → NoneFailed told b c → NoneFailed told a c
none_failed_then told p q = (q.0 ∙ p.0, q.1 ∙ p.1)

pub answered_none : {K : Type 0} (refusals : ℕ) (told : ToldBySink K) (d : Desk) (sink : K) (console : Kept) (tally : Tally)
    → StandsFor d console → counts_in tally ≡ record { ok = 0; refused = 0; bad = 0 }
    → AnsweredAll refusals refusals told d [] sink sink console tally
answered_none refusals told d sink console tally stands counts = record {
  failures = [];
  now = begin_at (begun d);
  done = record { each = refl; is = refl; allows = tt; few = omega arith };
  text = Appends-nil (told.holds sink);
  none_failed = (refl, refl);
  counts = sym counts;
  stands = stands;
}

-- all of what was popped is answered, up to a fault of the output
all_part : {K : Type 0} {before refusals : ℕ} {told : ToldBySink K} {d : Desk} {popped : List Message} {start sink : K} {console : Kept}
    {failures : List (Option ℕ)} {now : Session DeskState} → IsDoneWithEntries before refusals d (said popped) failures now
    → AppendsFront (told.holds start) (told.holds sink) now.text
    → AppendsAtLeast (told.holds start) (told.holds sink) (crew_text d (all_but_last (said popped)) failures)
    → HasStopped told d (said popped) failures start sink console → AnsweredPart before refusals told d popped start sink console
all_part {told = told} {popped = popped} {start} {sink} {failures = failures} done text earlier stopped = record {
  first = popped;
  rest = [];
  are = sym (append-nil popped);
  failures = failures;
  allows = done.allows;
  few = done.few;
  text = subst (λ (s : Session DeskState). AppendsFront (told.holds start) (told.holds sink) s.text) (sym done.is) text;
  earlier = earlier;
  stopped = stopped;
}

wrote_unfailed : {K : Type 0} (told : ToldBySink K) (start before : K) (text : List ℕ) → Appends (told.holds start) (told.holds before) text
    → NoneFailed told start before → WroteUnfailed told start text
wrote_unfailed told start before text p none = record {
  before = before;
  wrote = at_least (told.holds start) (told.holds before) text [] text (sym (append-nil text)) p;
  none_failed = none;
}

-- One more entry.
module _ {K : Type 0} {before : ℕ} {d : Desk} (told : ToldBySink K) (sink sink' : K) {popped : List Message} {start : K}
    {console : Kept} (console' : Kept) {tally : Tally} (tally' : Tally) (entry : Message) {e : CrewEntry} {refusals : ℕ} (refusals' : ℕ)
    (later : refusals ≤ refusals') (a : AnsweredAll before refusals told d popped start sink console tally)
    (is : entries_of entry.place entry.number entry.sent ≡ e ∷ []) where
  abbrev h : Option (List ℕ)
  h = told.holds start

  abbrev h' : Option (List ℕ)
  h' = told.holds sink'

  -- the session after it
  done_so : (failed : Option ℕ) (next : Session DeskState) → after_entry failed a.now e ≡ next
      → IfSome failed (λ attempt. IsAcceptedEdit a.now.state.desk (line_of e.line)) → (IsAmple true refusals refusals' → failed ≡ None)
      → IsDoneWithEntries before refusals' d (said (popped ++ entry ∷ [])) (a.failures ++ failed ∷ []) next
  done_so failed next goes may none = subst (λ es. IsDoneWithEntries before refusals' d es (a.failures ++ failed ∷ []) next)
      (sym (said_more popped entry (e ∷ []) is)) (done_more e failed a.done goes may later none)

  -- a part of it was written: its line is done, and all of its name was written before a fault, or neither
  part_so : (failed : Option ℕ) (next : Session DeskState)
      → IsDoneWithEntries before refusals' d (said (popped ++ entry ∷ [])) (a.failures ++ failed ∷ []) next → AppendsFront h h' next.text
      → AppendsAtLeast h h' a.now.text
      → (AppendsAtLeast h h' (a.now.text ++ op_text e)
      × (WroteUnfailed told start (a.now.text ++ op_text e) × StandsFor next.state.desk console'))
      ⊎ (AppendsFront h h' (a.now.text ++ op_text e) × (WroteUnfailed told start a.now.text × StandsFor a.now.state.desk console'))
      → AnsweredPart before refusals' told d (popped ++ entry ∷ []) start sink' console'
  part_so failed next done text earlier stopped =
      let fs = a.failures ++ failed ∷ [] in
      let all = said_more popped entry (e ∷ []) is in
      let earlier_now : a.now ≡ crew_session d (all_but_last (said (popped ++ entry ∷ []))) fs =
      sym (ap (λ es. crew_session d (all_but_last es) fs) all ∙ session_before (failed ∷ []) e a.done) in
      let name : a.now.text ++ op_text e ≡ text_to_last_name d (said (popped ++ entry ∷ [])) fs =
      sym (ap (λ es. text_to_last_name d es fs) all ∙ text_before (failed ∷ []) e a.done) in
      all_part done text (subst (λ (s : Session DeskState). AppendsAtLeast h h' s.text) earlier_now earlier) (elim stopped [
        | inl whole ↦ inl (
          subst (λ (v : List ℕ). AppendsAtLeast h h' v) name whole.0,
          (
            subst (λ (v : List ℕ). WroteUnfailed told start v) name whole.1.0,
            subst (λ (s : Session DeskState). StandsFor s.state.desk console') (sym done.is) whole.1.1,
          ),
        )
        | inr front ↦ inr (
          subst (λ (v : List ℕ). AppendsFront h h' v) name front.0,
          (
            subst (λ (s : Session DeskState). WroteUnfailed told start s.text) earlier_now front.1.0,
            subst (λ (s : Session DeskState). StandsFor s.state.desk console') earlier_now front.1.1,
          ),
        )
      ])

  -- its line was answered
  module _ (result : Result Bool SinkFault)
      (m : NamedAnswer refusals refusals' told sink sink' result a.now (op_text e) (line_of e.line) console' tally') where
    line_done : IsDoneWithEntries before refusals' d (said (popped ++ entry ∷ [])) (a.failures ++ m.answer.answer.failed ∷ []) m.answer.answer.next
    line_done =
        let w = m.answer.answer in
        done_so w.failed w.next w.goes_on.is w.goes_on.allowed m.answer.none

    name_whole : Appends h (told.holds m.between) (a.now.text ++ op_text e)
    name_whole = Appends-trans h (told.holds sink) (told.holds m.between) a.now.text (op_text e) a.text m.named

    name_unfailed : NoneFailed told start m.between
    name_unfailed = none_failed_then told a.none_failed m.none_failed

  pub answered_by : (result : Result Bool SinkFault)
      → AnswersNamed refusals refusals' told sink sink' result a.now (op_text e) (line_of e.line) console' tally'
      → HasAnswered before refusals' told d (popped ++ entry ∷ []) start sink' console' tally' (result_err result)
  answered_by (Ok b) (inl cut) = absurd (true≢false (sym cut.0))
  answered_by (Ok b) (inr m) =
      let w = m.answer.answer in record {
        failures = a.failures ++ w.failed ∷ [];
        now = w.next;
        done = line_done (Ok b) m;
        text = rw w.text (Appends-trans h (told.holds m.between) h' (a.now.text ++ op_text e) w.reply (name_whole (Ok b) m) w.puts.whole);
        none_failed = none_failed_then told (name_unfailed (Ok b) m) w.puts.cause.kept;
        counts = w.counts;
        stands = w.stands;
      }
  answered_by (Err f) (inl cut) =
      let more = extends_line None (named a.now e) (line_of e.line) in
      let front = front_then h (told.holds sink) h' a.now.text (op_text e) a.text cut.1 in
      part_so None (after_entry None a.now e) (done_so None (after_entry None a.now e) refl tt (λ ample. refl))
      (front_more h h' (a.now.text ++ op_text e) more.more (after_entry None a.now e).text more.text front)
      (at_least_then h (told.holds sink) h' a.now.text (op_text e) a.text cut.1)
      (inr (front, (wrote_unfailed told start sink a.now.text a.text a.none_failed, cut.2)))
  answered_by (Err f) (inr m) =
      let w = m.answer.answer in
      let name = a.now.text ++ op_text e in
      let whole = at_least_then h (told.holds m.between) h' name w.reply (name_whole (Err f) m) w.puts.part in
      let unfailed = wrote_unfailed told start m.between name (name_whole (Err f) m) (name_unfailed (Err f) m) in
      part_so w.failed w.next (line_done (Err f) m)
      (rw w.text (front_then h (told.holds m.between) h' name w.reply (name_whole (Err f) m) w.puts.part))
      (at_least_first h h' a.now.text (op_text e) whole) (inl (whole, (unfailed, w.stands)))

-- An entry has a line, which is given or, being too long, isn't.
pub record IsSaid (entry : Message) (given : Option (List ℕ)) : Type 0 where
  pub line : List ℕ
  pub said : entries_of entry.place entry.number entry.sent ≡ named_line entry.place entry.number line ∷ []
  pub means : meaning_of given ≡ line_of line

pub said_text : (entry : Message) (l : LineText) (given : Option (List ℕ)) → entry.sent ≡ Line l → given ≡ Some (text_in l)
    → IsSaid entry given
said_text entry l given is text = record {
  line = text_in l;
  said = ap (entries_of entry.place entry.number) is;
  means = ap meaning_of text;
}

pub said_long : (entry : Message) (given : Option (List ℕ)) → entry.sent ≡ LongLine → given ≡ None → IsSaid entry given
said_long entry given is none = record {
  line = long_line;
  said = ap (entries_of entry.place entry.number) is;
  means = ap meaning_of none ∙ sym long_means;
}

-- one more entry was answered, where the output had no fault before
pub answered_entry : {K : Type 0} (before refusals refusals' : ℕ) (told : ToldBySink K) (sink sink' : K)
    {result : Result Bool SinkFault} (d : Desk) (popped : List Message) (start : K) (console console' : Kept)
    (tally tally' : Tally) {entry : Message} {given : Option (List ℕ)} {output output' : Option SinkFault} → IsSaid entry given
    → output ≡ None → output' ≡ result_err result → refusals ≤ refusals'
    → FromDesk console tally (λ s. AnswersNamed refusals refusals' told sink sink' result s
    (op_text (named_line entry.place entry.number [])) (meaning_of given) console' tally')
    → HasAnswered before refusals told d popped start sink console tally output
    → HasAnswered before refusals' told d (popped ++ entry ∷ []) start sink' console' tally' output'
answered_entry before refusals refusals' told sink sink' {result} d popped start console console' tally tally' {entry} has none is later done so_far =
    let a : AnsweredAll before refusals told d popped start sink console tally = rw none at so_far in
    rw is (answered_by told sink sink' console' tally' entry refusals' later a has.said result (rw has.means at (done a.now a.stands a.counts)))

-- an output without a fault
pub none_is : (output : Option SinkFault) → false ≡ is_some output → output ≡ None
none_is None e = refl
none_is (Some fault) e = cc

-- a flush, where the output had no fault before, leaves what is written
pub answered_flush : {K T : Type 0} (result : Result T SinkFault) (before now : ℕ) (told : ToldBySink K) (d : Desk) (popped : List Message)
    (start sink sink' : K) (console : Kept) (tally : Tally) {output output' : Option SinkFault} → output ≡ None
    → output' ≡ result_err result → Keeps (told.holds sink) (told.holds sink') → HasSinkCause told sink sink' result
    → HasAnswered before now told d popped start sink console tally output → HasAnswered before now told d popped start sink' console tally output'
answered_flush {K} {T} result before now told d popped start sink sink' console tally none is kept cause so_far =
    let a : AnsweredAll before now told d popped start sink console tally = rw none at so_far in
    let h = told.holds start in
    let h' = told.holds sink' in
    let text : Appends h h' a.now.text = Appends-kept h (told.holds sink) h' a.now.text a.text kept in
    rw is (flushed result a text cause) where
      flushed : (r : Result T SinkFault) (a : AnsweredAll before now told d popped start sink console tally)
          → Appends (told.holds start) (told.holds sink') a.now.text → HasSinkCause told sink sink' r
          → HasAnswered before now told d popped start sink' console tally (result_err r)
      flushed (Ok x) a text cause = record {
        failures = a.failures;
        now = a.now;
        done = a.done;
        text = text;
        none_failed = none_failed_then told a.none_failed cause.kept;
        counts = a.counts;
        stands = a.stands;
      }
      flushed (Err f) a text cause =
          let names = λ (now : K) (p : Appends (told.holds start) (told.holds now) a.now.text).
          names_written d (said popped) a.failures (told.holds start) (told.holds now)
          (subst (λ (s : Session DeskState). Appends (told.holds start) (told.holds now) s.text) (sym a.done.is) p) in
          let written = names sink' text in
          all_part a.done (front_whole (told.holds start) (told.holds sink') a.now.text text)
          (at_least_first (told.holds start) (told.holds sink') _ _ written) (inl (
            written,
            (
              record { before = sink; wrote = names sink a.text; none_failed = a.none_failed },
              subst (λ (s : Session DeskState). StandsFor s.state.desk console) (sym a.done.is) a.stands,
            ),
          ))

-- by later refusals
pub answered_later : {K : Type 0} (before refusals refusals' : ℕ) (told : ToldBySink K) (d : Desk) (popped : List Message) (start sink : K)
    (console : Kept) (tally : Tally) (output : Option SinkFault) → refusals ≤ refusals'
    → HasAnswered before refusals told d popped start sink console tally output
    → HasAnswered before refusals' told d popped start sink console tally output
answered_later before refusals refusals' told d popped start sink console tally None later a =
    let few = a.done.few in record {
      failures = a.failures;
      now = a.now;
      done = record { each = a.done.each; is = a.done.is; allows = a.done.allows; few = omega (arith, few, later) };
      text = a.text;
      none_failed = a.none_failed;
      counts = a.counts;
      stands = a.stands;
    }
answered_later before refusals refusals' told d popped start sink console tally (Some fault) later a =
    let few = a.few in record {
      first = a.first;
      rest = a.rest;
      are = a.are;
      failures = a.failures;
      allows = a.allows;
      few = omega (arith, few, later);
      text = a.text;
      earlier = a.earlier;
      stopped = a.stopped;
    }

-- What comes after a fault of the output is thrown away.
pub thrown_away : {K : Type 0} (before refusals : ℕ) (told : ToldBySink K) (d : Desk) (popped : List Message) (start sink : K) (console : Kept)
    (tally : Tally) (entry : Message) (output : Option SinkFault) → true ≡ is_some output
    → HasAnswered before refusals told d popped start sink console tally output
    → HasAnswered before refusals told d (popped ++ entry ∷ []) start sink console tally output
thrown_away before refusals told d popped start sink console tally entry None is a = absurd (true≢false is)
thrown_away before refusals told d popped start sink console tally entry (Some fault) is a = record {
  first = a.first;
  rest = a.rest ++ entry ∷ [];
  are = ap (λ (l : List Message). l ++ entry ∷ []) a.are ∙ append_assoc a.first a.rest (entry ∷ []);
  failures = a.failures;
  allows = a.allows;
  few = a.few;
  text = a.text;
  earlier = a.earlier;
  stopped = a.stopped;
}
