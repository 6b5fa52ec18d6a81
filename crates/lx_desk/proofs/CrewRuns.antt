-- What the status of a crew says of its output and of its operators.
use Rattle.lx_desk.proofs.Imports.{◌≡◌, ◌≢◌, inl, inr, ℕ, zero, suc, ◌+◌, ◌<◌, ◌≤◌, true, false, Option, Some, None, IfSome, IsSome}
use Rattle.lx_desk.proofs.Imports.{List, [], ◌∷◌, ◌++◌, length, take, drop, slice_get, refl, sym, ap, ◌∙◌, subst, arith, take_all}
use Rattle.lx_desk.proofs.Imports.{length-append, length-drop, AllByRecursion, position_or_len, same_Some, slice_get_within, SinkFault, Rose}
use Rattle.lx_desk.proofs.Imports.{lines_of, Show, opened, Kept, ends_script, lines_wanted, Tally, OperatorFault, EachAt, Status}
use Rattle.lx_desk.proofs.Imports.{WritesTranscript, WritesLines, Serves, WritesFirstLines, KeepsPlaces, NoOperatorFailed, OperatorFailed, TellsOperators, TellsCrew, Finishes}
use Rattle.lx_desk.proofs.Imports.{◌⊎◌, ByRefusals, ServesOver, known_since, EndsScript, HandsOn, ToldBySink, ToldBySource}
use Rattle.std.specs.Io.KnownBytes.{Appends}
use Rattle.std.proofs.KnownBytes.{Appends-nil}
use Rattle.std.proofs.lemmas.List.{length-take}
use Rattle.lx_io.specs.declared.sink.SinkFault.TheVariants as sinks
use Rattle.lx_spec.specs.CrewText.{CrewEntry, lines_up_to_quit, numbered_from, crew_text}
use Rattle.lx_crew.specs.declared.fault.OperatorFault.TheVariants as ends
use Rattle.lx_crew.specs.Scripts.{AreLines, CutLines, ScriptHasEnded}
use Rattle.lx_crew.proofs.LastEntries.{at_least_first, names_written}
use Rattle.lx_crew.specs.CrewOutcome.{ScriptIsBack, HasWrittenTranscript, HasCrewed}
use Rattle.lx_crew.specs.Transcripts.{AppendsAtLeast, WholeTranscript, TranscriptPrefix, all_but_last}
use Rattle.lx_crew.specs.EngineAnswers.{OutputCause}
use Rattle.lx_desk.specs.declared.desk.Status.TheVariants as status
use Rattle.lx_desk.proofs.Inputs.{whole_front, front_nothing}
use Rattle.lx_desk.proofs.Finishing.{all_done, not_done}
use Rattle.lx_desk.proofs.PlacesInUse.{InUse, at_back, at_used, drop_back, get_take}

-- a status that no fault of the output has is the operators'
operators_tell : (output : Option SinkFault) (told : List (Option OperatorFault)) {s : Status} (t : Status) → TellsCrew output told s
    → s ≡ t → status.WriteFault ≢ t → status.Memory ≢ t → TellsOperators told t
operators_tell None told t tells is write memory = subst (λ (u : Status). TellsOperators told u) is tells
operators_tell (Some sinks.Failed) told t tells is write memory = absurd (write (sym tells ∙ is))
operators_tell (Some sinks.Memory) told t tells is write memory = absurd (memory (sym tells ∙ is))

-- a list of places that all have a source
pub there : {S : Type 0} (places : List (Option S)) → EachAt (λ k source. IsSome source) places → (place : ℕ) → place < length places
    → (start : S) × (slice_get places place ≡ Some (Some start))
there [] full place lt = absurd (omega arith)
there (None ∷ places) full zero lt = let bad : false ≡ true = full 0 None refl in absurd cc
there (Some start ∷ places) full zero lt = (start, refl)
there (x ∷ places) full (suc place) lt = there places (λ k source at. full (suc k) source at) place (omega arith)

full_both : {S : Type 0} (xs ys : List (Option S)) → EachAt (λ k source. IsSome source) xs → EachAt (λ k source. IsSome source) ys
    → EachAt (λ k source. IsSome source) (xs ++ ys)
full_both [] ys first second k source at = second k source at
full_both (x ∷ xs) ys first second zero source at = first zero source at
full_both (x ∷ xs) ys first second (suc k) source at = full_both xs ys (λ j s is. first (suc j) s is) second k source at

full_drop : {S : Type 0} (n : ℕ) (places : List (Option S)) → EachAt (λ k source. IsSome source) places
    → EachAt (λ k source. IsSome source) (drop n places)
full_drop zero places full = full
full_drop (suc n) [] full = full
full_drop (suc n) (x ∷ places) full = full_drop n places (λ k source at. full (suc k) source at)

pub full_front : {S : Type 0} (n : ℕ) (places : List (Option S)) → EachAt (λ k source. IsSome source) places
    → EachAt (λ k source. IsSome source) (take n places)
full_front n places full k source at =
    let within = slice_get_within (take n places) k source at in
    full k source (sym (get_take n k places (omega (arith, within, length-take n places))) ∙ at)

-- A crew over the first n operators.
module _ {S K : Type 0} {known : Option ℕ} {told_in : ToldBySource S} {told_out : ToldBySink K} (show : Show) {count : ℕ}
    {operators used used' rest : List (Option S)} {sink sink' : K} {console : Kept} {tally : Tally} {output : Option SinkFault}
    {told : List (Option OperatorFault)} (i : InUse count operators used rest)
    (c : HasCrewed known told_in told_out (opened show) used used' sink sink' console tally output told) where
  back : {place : ℕ} {start : S} → place < count → slice_get operators place ≡ Some (Some start)
      → ScriptIsBack told_in (used' ++ rest) told place start (c.lines (place + 1))
  back {place} {start} within at =
      let b = c.each place start (at_used i place within ∙ at) in
      record {
        source = b.source;
        fault = b.fault;
        place_is = at_back i used' c.same_places place within ∙ b.place_is;
        fault_is = b.fault_is;
        ended = b.ended;
      }

  -- what the crew wrote, by the status
  transcript : WholeTranscript known (opened show) c.lines (told_out.holds sink) (told_out.holds sink') console tally
      → WritesTranscript known show c.lines (told_out.holds sink) (told_out.holds sink')
  transcript w = record { entries = w.entries; merged = w.merged; failures = w.failures; allows = w.allows; text = w.text }

  written : (o : Option SinkFault) (s : Status)
      → HasWrittenTranscript known told_out (opened show) c.lines sink sink' console tally o → TellsCrew o told s
      → WritesLines known s show c.lines told (told_out.holds sink) (told_out.holds sink')
  written None status.Ok w tells = (transcript w, tells)
  written None status.ReadFault w tells = (transcript w, tells)
  written None status.InputTooLong w tells = (transcript w, tells)
  written None s w tells = absurd tells
  written (Some sinks.Failed) s w tells = rw tells w.prefix
  written (Some sinks.Memory) s w tells = rw tells w.prefix

  serves : (s : Status) → TellsCrew output told s
      → Serves known told_in show count operators (used' ++ rest) (told_out.holds sink) (told_out.holds sink') s
  serves s tells = record {
    lines = c.lines;
    told = told;
    each = λ place start within at. back within at;
    none = c.none;
    no_more = λ operator past. let n = i.count in c.no_more operator (omega (arith, past, n));
    others = λ place fault at. let n = i.count in let within = c.others place fault at in omega (arith, within, n);
    written = written output s c.written tells;
  }

  none_failed : (s : Status) → TellsCrew output told s → s ≡ status.Ok → NoOperatorFailed told_in count operators (used' ++ rest)
  none_failed s tells ok place start new within at after =
      let b = back within at in
      let is : b.source ≡ new = same_Some b.source new (same_Some (Some b.source) (Some new) (sym b.place_is ∙ after)) in
      let none : b.fault ≡ None = operators_tell output told status.Ok tells ok (λ odd. cc) (λ odd. cc) place b.fault b.fault_is in
      sym (ap told_in.faults is) ∙ b.ended.kept (λ odd. let bad : None ≡ Some ends.ReadFault = sym none ∙ odd in absurd cc)

  module _ (full : EachAt (λ k source. IsSome source) operators) (most : count ≤ length operators) where
    full_used : EachAt (λ k source. IsSome source) used'
    full_used k source at =
        let before = subst (λ l. EachAt (λ k source. IsSome source) l) (sym i.front) (full_front count operators full) in
        let within = slice_get_within used' k source at in
        let same = c.same_places in
        let from = there used before k (omega (arith, within, same)) in
        let b = c.each k from.0 from.1 in
        subst (λ (o : Option S). IsSome o) (same_Some (Some b.source) source (sym b.place_is ∙ at)) refl

    keeps_places : KeepsPlaces count operators (used' ++ rest)
    keeps_places = record {
      same_places =
          let n = i.count in
          let same = c.same_places in
          omega (arith, most, length-append used' rest, n, same, ap length i.back, length-drop count operators);
      full = full_both used' rest full_used (subst (λ l. EachAt (λ k source. IsSome source) l) (sym i.back) (full_drop count operators full));
      others = drop_back i used' c.same_places;
    }

    operator_failed : (s : Status) → TellsCrew output told s → s ≡ status.ReadFault → OperatorFailed told_in count operators (used' ++ rest)
    operator_failed s tells failed =
        let lowest = operators_tell output told status.ReadFault tells failed (λ odd. cc) (λ odd. cc) in
        let within : lowest.place < count =
        (let n = i.count in let lt = c.others lowest.place ends.ReadFault lowest.at in omega (arith, lt, n)) in
        let from = there operators full lowest.place (omega (arith, within, most)) in
        let b = back within from.1 in
        record {
          place = lowest.place;
          within = within;
          start = from.0;
          new = b.source;
          before = from.1;
          after = b.place_is;
          rose = b.ended.failed (same_Some b.fault (Some ends.ReadFault) (sym b.fault_is ∙ lowest.at));
        }

-- first lines of a script, of which none ends it, are first lines up to its end
up_to_quit : (m : ℕ) (script : List (List ℕ)) → AllByRecursion (λ line. ends_script line ≡ false) (take m script)
    → take m script ≡ take m (take (lines_wanted script) script)
up_to_quit zero script go_on = refl
up_to_quit (suc m) [] go_on = refl
up_to_quit (suc m) (line ∷ script) go_on =
    let first = go_on.0 in
    let here : position_or_len ends_script (line ∷ script) ≡ 1 + position_or_len ends_script script = rw first refl in
    let next : lines_wanted (line ∷ script) ≡ suc (lines_wanted script) = omega (arith, here) in
    ap (λ l. line ∷ l) (up_to_quit m script go_on.1) ∙ sym (ap (λ k. take (suc m) (take k (line ∷ script))) next)

first_of_first : {A : Type 0} (n m : ℕ) (xs : List A) → (k : ℕ) × (take n (take m xs) ≡ take k xs)
first_of_first zero m xs = (0, refl)
first_of_first (suc n) zero xs = (0, refl)
first_of_first (suc n) (suc m) [] = (0, refl)
first_of_first (suc n) (suc m) (x ∷ xs) = let less = first_of_first n m xs in (suc less.0, ap (λ l. x ∷ l) less.1)

-- an operator's lines are first lines of its script
cut_front : (bytes : List ℕ) (left : Option (List ℕ)) (lines : List (List ℕ)) → CutLines bytes left lines
    → (m : ℕ) × (lines ≡ take m (lines_up_to_quit bytes))
cut_front bytes left lines c = (
  c.cut.lines,
  c.are ∙ up_to_quit c.cut.lines (lines_of bytes) (subst (λ l. AllByRecursion (λ line. ends_script line ≡ false) l) c.are c.go_on),
)

lines_front : (fault : Option OperatorFault) (bytes : List ℕ) (left : Option (List ℕ)) (lines : List (List ℕ))
    → AreLines fault bytes left lines → (m : ℕ) × (lines ≡ take m (lines_up_to_quit bytes))
lines_front None bytes left lines all = (
  length (lines_up_to_quit bytes),
  all.are ∙ sym (take_all (length (lines_up_to_quit bytes)) (lines_up_to_quit bytes) (omega arith)),
)
lines_front (Some ends.ReadFault) bytes left lines c = cut_front bytes left lines c
lines_front (Some ends.InputTooLong) bytes left lines c = cut_front bytes left lines c.0

ended_front : {S : Type 0} (told : ToldBySource S) (start source : S) (fault : Option OperatorFault)
    (lines : List (List ℕ)) (bytes : List ℕ) → ScriptHasEnded told start source fault lines → told.left start ≡ Some bytes
    → (m : ℕ) × (lines ≡ take m (lines_up_to_quit bytes))
ended_front told start source fault lines bytes ended known =
    lines_front fault bytes (told.left source) lines
    (subst (λ (o : Option (List ℕ)). IfSome o (λ b. AreLines fault b (told.left source) lines)) known ended.are)

-- where all of it was written, that of all entries but the last was
earlier_written : (show : Show) (entries : List CrewEntry) (failures : List (Option ℕ)) (held held' : Option (List ℕ))
    → Appends held held' (crew_text (opened show) entries failures)
    → AppendsAtLeast held held' (crew_text (opened show) (all_but_last entries) failures)
earlier_written show entries failures held held' whole =
    at_least_first held held' _ _ (names_written (opened show) entries failures held held' whole)

-- However a crew ended, it wrote a prefix of the text of first lines.
as_prefix : {show : Show} {lines : ℕ → List (List ℕ)} {held held' : Option (List ℕ)} → WritesTranscript None show lines held held' → TranscriptPrefix None (opened show) lines held held'
as_prefix {show} {lines} {held} {held'} w = record {
  entries = w.entries;
  merged = λ operator. (
    length (lines operator),
    w.merged operator
        ∙ ap (numbered_from operator 1) (sym (take_all (length (lines operator)) (lines operator) (omega arith))),
  );
  failures = w.failures;
  allows = w.allows;
  text = whole_front held held' (crew_text (opened show) w.entries w.failures) w.text;
  earlier = earlier_written show w.entries w.failures held held' w.text;
}

module _ {S : Type 0} {told : ToldBySource S} {show : Show} {count : ℕ} {operators operators' : List (Option S)}
    {held held' : Option (List ℕ)} where
  some_front : {s : Status} (h : Serves None told show count operators operators' held held' s)
      → TranscriptPrefix None (opened show) h.lines held held' → WritesFirstLines told show count operators held held'
  some_front h w = record {
    entries = w.entries;
    each = λ place start bytes within at known.
        let b = h.each place start within at in
        let first = ended_front told start b.source b.fault (h.lines (place + 1)) bytes b.ended known in
        let so_far = w.merged (place + 1) in
        let less = first_of_first so_far.0 first.0 (lines_up_to_quit bytes) in
        (less.0, so_far.1 ∙ ap (numbered_from (place + 1) 1) (ap (take so_far.0) first.1 ∙ less.1));
    none = (w.merged 0).1 ∙ ap (numbered_from 0 1) (ap (take (w.merged 0).0) h.none ∙ take_all (w.merged 0).0 [] (omega arith));
    no_more = λ operator past.
        (w.merged operator).1
        ∙ ap (numbered_from operator 1)
        (ap (take (w.merged operator).0) (h.no_more operator past) ∙ take_all (w.merged operator).0 [] (omega arith));
    failures = w.failures;
    allows = w.allows.allows;
    text = w.text;
    earlier = w.earlier;
  }

  served_front : (s : Status) → Serves None told show count operators operators' held held' s
      → WritesFirstLines told show count operators held held'
  served_front status.Ok h = some_front h (as_prefix h.written.0)
  served_front status.ReadFault h = some_front h (as_prefix h.written.0)
  served_front status.InputTooLong h = some_front h (as_prefix h.written.0)
  served_front status.WriteFault h = some_front h h.written
  served_front status.Memory h = some_front h h.written
  served_front s h = absurd h.written

-- where nothing was written
pub no_lines : {S : Type 0} (told : ToldBySource S) (show : Show) (count : ℕ) (operators : List (Option S))
    (held held' : Option (List ℕ)) → held' ≡ held → WritesFirstLines told show count operators held held'
no_lines told show count operators held held' kept = record {
  entries = [];
  each = λ place start bytes within at known. (0, refl);
  none = refl;
  no_more = λ operator past. refl;
  failures = [];
  allows = tt;
  text = rw kept (front_nothing held (crew_text (opened show) [] []));
  earlier = earlier_written show [] [] held held' (rw kept (Appends-nil held));
}

-- What a crew's status says of the output and of its counts.
record CrewTold {K : Type 0} (told_out : ToldBySink K) (sink sink' : K) (s : Status) : Type 0 where
  works : EndsScript s
  finished : (reads : ℕ) → Finishes reads reads told_out sink sink' s
  failed : s ≡ status.WriteFault → Rose (told_out.faults sink) (told_out.faults sink')
  short : s ≡ status.Memory → Rose (told_out.wants sink) (told_out.wants sink')
  hands_on : HandsOn told_out sink sink' s

operators_end : (told : List (Option OperatorFault)) (s : Status) → TellsOperators told s → EndsScript s
operators_end told status.Ok tells = tt
operators_end told status.ReadFault tells = tt
operators_end told status.InputTooLong tells = tt
operators_end told s tells = absurd tells

crew_told : {K : Type 0} {told_out : ToldBySink K} {sink sink' : K} (output : Option SinkFault) (told : List (Option OperatorFault)) (s : Status)
    → TellsCrew output told s → OutputCause told_out sink sink' None output → (output ≡ None → told_out.back sink' ≡ [])
    → CrewTold told_out sink sink' s
crew_told None told s tells c none =
    let kept = c.kept refl in
    record {
      works = operators_end told s tells;
      finished = λ reads. all_done refl kept.1 kept.2 (none refl);
      failed = λ is. absurd (subst (λ (t : Status). TellsOperators told t) is tells);
      short = λ is. absurd (subst (λ (t : Status). TellsOperators told t) is tells);
      hands_on = λ which. inr (kept.1, (kept.2, none refl));
    }
crew_told (Some sinks.Failed) told s tells c none = rw tells (record {
  works = tt;
  finished = λ reads. not_done (λ done. done) (λ other. other);
  failed = λ is. elim (c.failed refl) [ inl odd ↦ absurd cc | inr rose ↦ rose ];
  short = λ is. absurd cc;
  hands_on = λ which. elim which [ inl read ↦ absurd cc | inr long ↦ absurd cc ];
})
crew_told (Some sinks.Memory) told s tells c none = rw tells (record {
  works = tt;
  finished = λ reads. not_done (λ done. done) (λ other. other);
  failed = λ is. absurd cc;
  short = λ is. elim (c.memory refl) [ inl odd ↦ absurd cc | inr rose ↦ rose ];
  hands_on = λ which. elim which [ inl read ↦ absurd cc | inr long ↦ absurd cc ];
})

-- The first operators were served, by a heap that had refused so much before the opening, before the crew and after it.
pub serves_over : {S K : Type 0} {told_in : ToldBySource S} {told_out : ToldBySink K} {first queues queues' : ℕ} (before after : ℕ) {show : Show}
    {count : ℕ} {operators used rest : List (Option S)} (used' : List (Option S)) {sink sink' : K} {console : Kept} {tally : Tally}
    {output : Option SinkFault} {told : List (Option OperatorFault)} {s : Status} → InUse count operators used rest
    → count ≤ length operators → EachAt (λ k source. IsSome source) operators → first ≤ before → before ≤ after → queues ≤ queues'
    → ByRefusals before after (λ known. HasCrewed known told_in told_out (opened show) used used' sink sink' console tally output told)
    → OutputCause told_out sink sink' None output → (output ≡ None → told_out.back sink' ≡ []) → TellsCrew output told s
    → ServesOver told_in told_out first after queues queues' show count sink sink' operators (used' ++ rest) s
serves_over {first} before after {show} used' {output} {told} {s} i most full opened_later held heard crewed cause none tells =
    let any = crewed None tt in
    let t = crew_told output told s tells cause none in
    record {
      works = t.works;
      places = keeps_places show i any full most;
      served = λ known refused. inr (serves show i (crewed known (known_since known first before after opened_later refused)) s tells);
      prefix = served_front s (serves show i any s tells);
      read = operator_failed show i any full most s tells;
      none_failed = none_failed show i any s tells;
      write = t.failed;
      finished = t.finished;
      memory = λ memory. inr (t.short memory);
      unread = λ memory. inr (t.short memory);
      handed_on = t.hands_on;
      wanted = λ memory. inr (t.short memory);
      later = omega (arith, opened_later, held);
      queues_later = heard;
    }

-- Memory was short at the opening: nothing was read or written.
pub serves_none : {S K : Type 0} {told_in : ToldBySource S} {told_out : ToldBySink K} {before after queues queues' : ℕ} {show : Show} {count : ℕ}
    {operators operators' : List (Option S)} {sink sink' : K} → operators' ≡ operators → sink' ≡ sink
    → EachAt (λ k source. IsSome source) operators → before ≤ after → queues ≤ queues' → Rose before after ⊎ Rose queues queues'
    → ServesOver told_in told_out before after queues queues' show count sink sink' operators operators' status.Memory
serves_none {told_in} {told_out} {show} {count} {operators} {sink} same kept full later heard short = rw (kept, same) (record {
  works = tt;
  places = record { same_places = refl; full = full; others = refl };
  served = λ known refused. inl (refl, (refl, refl));
  prefix = no_lines told_in show count operators (told_out.holds sink) (told_out.holds sink) refl;
  read = λ is. absurd cc;
  none_failed = λ is. absurd cc;
  write = λ is. absurd cc;
  finished = λ reads. not_done (λ done. done) (λ other. other);
  memory = λ is. inl refl;
  unread = λ is. inl refl;
  handed_on = λ which. inl refl;
  wanted = λ is. inl short;
  later = later;
  queues_later = heard;
})
