-- What a crew came to, by what its operators and its engine did.
use Rattle.lx_crew.proofs.Imports.{◌≡◌, ◌⊎◌, inl, inr, ℕ, zero, suc, ◌<◌, ◌≤◌, ◌==◌, true, Option, Some, None, List, []}
use Rattle.lx_crew.proofs.Imports.{◌++◌, length, map, slice_get, refl, sym, ap, ◌∙◌, subst, add-one, arith, AllByRecursion, Appends, slice_get_within}
use Rattle.lx_crew.proofs.Imports.{filter-append, Pass, SinkFault, AppendsFront, crew_session, Desk, Kept, Session, DeskState, StandsFor, Tally, Message}
use Rattle.lx_crew.proofs.Imports.{OperatorFault, Operator, View, said, HasAnswered, of_place, is_last, has_last, EachAt, Retired, owned, engine_view, Learned}
use Rattle.lx_crew.proofs.Imports.{ScriptHasEnded, last_entry, ToldBySink, ToldBySource, CrewEntry, IfSome, failed_count, IsAtMost, RoseAtMost, RoseBy, all_most, few_at, AppendsAtLeast, HasStopped, WroteUnfailed, begin_at, begun}
use Rattle.lx_crew.specs.declared.fault.OperatorFault.TheVariants.{ReadFault, InputTooLong}
use Rattle.lx_crew.specs.CrewOutcome.{ScriptIsBack, HasWrittenTranscript, HasCrewed}
use Rattle.std.proofs.lemmas.Bool.{cases_lt}
use Rattle.lx_work.proofs.Places.{get_within}
use Rattle.lx_crew.proofs.Lists.{none_both}
use Rattle.lx_crew.proofs.MergedEntries.{SentAt, AllSent, IsTrueTo, Alike, true_entries, by_number, all_true, all_front, alike_said, allows_alike}
use Rattle.lx_crew.proofs.MergedEntries.{same_session, same_before, same_name, merged, merged_so_far}
use Rattle.lx_crew.proofs.Works.{complete}

last_ends : (fault : Option OperatorFault) → is_last (last_entry fault) ≡ true
last_ends None = refl
last_ends (Some ReadFault) = refl
last_ends (Some InputTooLong) = refl

module _ {S : Type 0} (told_in : ToldBySource S) (Its : Pass Message View → Type 0) (places : List (Option S)) (ys : List (Operator S))
    (h : EachAt (Retired told_in Its places) ys) where
  -- the lines of the operator at a place, if there is one
  abbrev lines_at : (k : ℕ) → (k < length ys) ⊎ (length ys ≤ k) → List (List ℕ)
  lines_at k (inl within) = (h k (get_within ys k within).0 (get_within ys k within).1).sent.lines
  lines_at k (inr past) = []

  abbrev lines_of : ℕ → List (List ℕ)
  lines_of k = lines_at k (cases_lt k (length ys))

  -- Each operator's entries among what was popped are those of its lines.
  sent_at : (popped items : List Message) (n : ℕ) → length ys ≡ n → Learned (engine_view n popped (map owned ys ++ [])) items
      → ((k : ℕ) → k < n → has_last (of_place k popped) ≡ true) → (k : ℕ) → (c : (k < length ys) ⊎ (length ys ≤ k))
      → AllSent k (of_place k popped) (lines_at k c) ⊎ ((of_place k popped ≡ []) × (lines_at k c ≡ []))
  sent_at popped items n len learned ended k (inl within) =
      let y = get_within ys k within in
      let r = h k y.0 y.1 in
      let s = r.sent in
      inl (record {
        front = s.entries;
        last = s.last;
        are = complete told_in Its places ys popped items learned.lists k y.0 y.1 r (ended k (omega (arith, len, within)));
        have = s.have;
        ends = ap is_last s.ends ∙ last_ends y.0.fault;
      })
  sent_at popped items n len learned ended k (inr past) =
      let none : of_place k popped ++ of_place k items ≡ [] =
      sym (filter-append (λ (x : Message). x.place == k) popped items) ∙ learned.others k (omega (arith, len, past)) in
      inr ((none_both (of_place k popped) (of_place k items) none).0, refl)

  -- An operator's source is back, and its lines are these.
  back_at : (places' : List (Option S)) (told : List (Option OperatorFault)) → length ys ≡ length places
      → EachAt (λ k y. slice_get places' k ≡ Some (Some y.source)) ys → EachAt (λ k y. slice_get told k ≡ Some y.fault) ys
      → (place : ℕ) (start : S) → slice_get places place ≡ Some (Some start)
      → (c : (place < length ys) ⊎ (length ys ≤ place)) → ScriptIsBack told_in places' told place start (lines_at place c)
  back_at places' told len back says place start at (inl within) =
      let y = get_within ys place within in
      let r = h place y.0 y.1 in
      let own : Some (Some r.start) ≡ Some (Some start) = sym r.source ∙ at in
      let from : r.start ≡ start = cc in record {
        source = y.0.source;
        fault = y.0.fault;
        place_is = back place y.0 y.1;
        fault_is = says place y.0 y.1;
        ended = subst (λ s. ScriptHasEnded told_in s y.0.source y.0.fault r.sent.lines) from r.sent.ended;
      }
  back_at places' told len back says place start at (inr past) =
      absurd (let within = slice_get_within places place (Some start) at in omega (arith, len, past, within))

  no_more : length ys ≡ length places → (operator : ℕ) → length places < operator → by_number lines_of operator ≡ []
  no_more len zero past = refl
  no_more len (suc k) past = elim (cases_lt k (length ys)) as (λ c. lines_at k c ≡ [])
      [ inl within ↦ absurd (omega (arith, len, past, within)) | inr none ↦ refl ]

-- what was done where the output had a fault, by other entries of the same session
stopped_at : {K : Type 0} (told : ToldBySink K) (d : Desk) (xs ys : List CrewEntry) (failures : List (Option ℕ)) (sink sink' : K)
    (console : Kept) → Alike xs ys → HasStopped told d xs failures sink sink' console → HasStopped told d ys failures sink sink' console
stopped_at told d xs ys failures sink sink' console alike stopped = elim stopped [
  | inl done ↦ inl (
    subst (λ (v : List ℕ). AppendsAtLeast (told.holds sink) (told.holds sink') v) (same_name d failures xs ys alike) done.0,
    (
      subst (λ (v : List ℕ). WroteUnfailed told sink v) (same_name d failures xs ys alike) done.1.0,
      subst (λ (s : Session DeskState). StandsFor s.state.desk console) (same_session d failures xs ys alike) done.1.1,
    ),
  )
  | inr cut ↦ inr (
    subst (λ (v : List ℕ). AppendsFront (told.holds sink) (told.holds sink') v) (same_name d failures xs ys alike) cut.0,
    (
      subst (λ (s : Session DeskState). WroteUnfailed told sink s.text) (same_before d failures xs ys alike) cut.1.0,
      subst (λ (s : Session DeskState). StandsFor s.state.desk console) (same_before d failures xs ys alike) cut.1.1,
    ),
  )
]

-- as many calls as lines that failed were refused, so no more lines failed than is known
few_of : (most : Option ℕ) (a c : ℕ) (failures : List (Option ℕ)) → IfSome most (RoseAtMost a c) → RoseBy a c (failed_count failures)
    → IsAtMost most (failed_count failures)
few_of most a c failures known paid = few_at most true a c failures (all_most most a c known) (λ is. paid)

-- The transcript was written, or a prefix of one.
written : {K : Type 0} (most : Option ℕ) (first last : ℕ) (told : ToldBySink K) (d : Desk) (lines : ℕ → List (List ℕ)) (popped : List Message)
    (sink sink' : K) (console : Kept) (tally : Tally) (output : Option SinkFault) → ((k : ℕ) → SentAt lines k (of_place k popped))
    → IfSome most (RoseAtMost first last) → HasAnswered first last told d popped sink sink' console tally output
    → HasWrittenTranscript most told d (by_number lines) sink sink' console tally output
written most first last told d lines popped sink sink' console tally None sent known a =
    let alike = alike_said lines popped (all_true lines popped sent) in
    let same : a.now ≡ crew_session d (true_entries lines popped) a.failures =
    sym a.done.is ∙ same_session d a.failures (said popped) (true_entries lines popped) alike in record {
      entries = true_entries lines popped;
      merged = merged lines popped sent;
      failures = a.failures;
      allows = record {
        allows = allows_alike a.failures (begin_at (begun d)) (said popped) (true_entries lines popped) alike a.done.allows;
        few = few_of most first last a.failures known a.done.few;
      };
      text = subst (λ (s : Session DeskState). Appends (told.holds sink) (told.holds sink') s.text) same a.text;
      counts = sym a.counts ∙ ap (λ (s : Session DeskState). s.counts) same;
      stands = subst (λ (s : Session DeskState). StandsFor s.state.desk console) same a.stands;
    }
written most first last told d lines popped sink sink' console tally (Some fault) sent known a =
    let h = told.holds sink in
    let h' = told.holds sink' in
    let xs = said a.first in
    let ys = true_entries lines a.first in
    let alike = alike_said lines a.first
    (all_front (IsTrueTo lines) a.first a.rest (subst (AllByRecursion (IsTrueTo lines)) a.are (all_true lines popped sent))) in record {
      prefix = record {
        entries = ys;
        merged = merged_so_far lines popped a.first a.rest sent a.are;
        failures = a.failures;
        allows = record {
          allows = allows_alike a.failures (begin_at (begun d)) xs ys alike a.allows;
          few = few_of most first last a.failures known a.few;
        };
        text = subst (λ (s : Session DeskState). AppendsFront h h' s.text) (same_session d a.failures xs ys alike) a.text;
        earlier = subst (λ (s : Session DeskState). AppendsAtLeast h h' s.text) (same_before d a.failures xs ys alike) a.earlier;
      };
      stopped = stopped_at told d xs ys a.failures sink sink' console alike a.stopped;
    }

pub crewed : {S K : Type 0} (most : Option ℕ) (first last : ℕ) (told_in : ToldBySource S) (told_out : ToldBySink K) (Its : Pass Message View → Type 0) (d : Desk)
    (places places' : List (Option S)) (sink sink' : K) (console : Kept) (tally : Tally) (output : Option SinkFault)
    (told : List (Option OperatorFault)) (ys : List (Operator S)) (popped items : List Message) (n : ℕ)
    → EachAt (Retired told_in Its places) ys → length ys ≡ n → n ≡ length places → Learned
    (engine_view n popped (map owned ys ++ [])) items
    → ((k : ℕ) → k < n → has_last (of_place k popped) ≡ true) → length places' ≡ length places
    → EachAt (λ k y. slice_get places' k ≡ Some (Some y.source)) ys → EachAt (λ k y. slice_get told k ≡ Some y.fault) ys
    → ((place : ℕ) (fault : OperatorFault) → slice_get told place ≡ Some (Some fault) → place < length places)
    → IfSome most (RoseAtMost first last) → HasAnswered first last told_out d popped sink sink' console tally output
    → HasCrewed most told_in told_out d places places' sink sink' console tally output told
crewed most first last told_in told_out Its d places places' sink sink' console tally output told ys popped items n h len all learned ended same back
    says others known answered =
    let count : length ys ≡ length places = len ∙ all in
    let lines = lines_of told_in Its places ys h in record {
      lines = by_number lines;
      same_places = same;
      each = λ place start at. subst (λ ls. ScriptIsBack told_in places' told place start ls) (sym (ap (by_number lines) (add-one place)))
          (back_at told_in Its places ys h places' told count back says place start at (cases_lt place (length ys)));
      none = refl;
      no_more = no_more told_in Its places ys h count;
      others = others;
      written = written most first last told_out d lines popped sink sink' console tally output
          (λ k. sent_at told_in Its places ys h popped items n len learned ended k (cases_lt k (length ys))) known answered;
    }
