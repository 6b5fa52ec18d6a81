-- What the status of a live run says of its output and of its outlets.
use Rattle.lx_desk.proofs.Imports.{◌≡◌, inl, inr, ℕ, zero, suc, ◌<◌, ◌≤◌, true, false, Option, Some, None, Result}
use Rattle.lx_desk.proofs.Imports.{Ok, Err, IfSome, List, [], ◌∷◌, ◌++◌, length, take, slice_get, refl, sym, ap, ◌∙◌, subst, arith}
use Rattle.lx_desk.proofs.Imports.{append-nil, take_all, ◌+◌, HandsOnReplies, INPUT_BYTES, same_Some, SinkFault, Lines, Command, lines_of, Show, opened}
use Rattle.lx_desk.proofs.Imports.{Kept, Session, begin_at, after_each, answered_lines, Allows, bytes_wanted, DeskState, begun, desk_answering}
use Rattle.lx_desk.proofs.Imports.{SessionFault, Tally, HasDone, ScriptAnswered, KeepsLimit}
use Rattle.lx_desk.proofs.Imports.{HasSessionCause, IsFull, Status, status_for, live_session, LiveAllows, HaveVersions, PlaysScript, HaveGot}
use Rattle.lx_desk.proofs.Imports.{LiveMemory, any_memory, AreServed, PlaysInFront, PlaysTaken, HasPlayedLive, OutletFailed, PlaysToEnd, LacksMemory}
use Rattle.lx_desk.proofs.Imports.{DecidesInOrder, Finishes, HasLiveCause, TellsOutlets, TellsRun, Appends, AppendsFront, ToldBySink, ToldBySource}
use Rattle.lx_desk.proofs.Imports.{◌-◌, AppendsAtLeast, bytes_taken, desk_lawful, more_of_whole, source_faults, source_left}
use Rattle.lx_desk.proofs.Imports.{◌⊎◌, ByRefusals, failed_count, IsAtMost, EndsScript, PlaysLive, known_since, unread, Rose, HasStood, OutletsFinish, OutletWanted, WantsLive}
use Rattle.std.proofs.lemmas.Bool.{cases_lt}
use Rattle.std.proofs.lemmas.List.{nil_from_length}
use Rattle.lx_io.specs.Causes.{one_more}
use Rattle.lx_io.specs.declared.sink.SinkFault.TheVariants as sinks
use Rattle.lx_session.specs.declared.fault.SessionFault.TheVariants as faults
use Rattle.lx_workers.specs.Engines.{engine_answering, leaves_room, most_of}
use Rattle.lx_workers.specs.LiveOutcome.{HasPlayedScript}
use Rattle.lx_workers.specs.Places.{OutletIsBack}
use Rattle.lx_desk.specs.declared.desk.Status.TheVariants as status
use Rattle.lx_desk.proofs.Finishing.{all_done, as_live_cause, ends_script, has_cause, not_done, session_finishes, session_wants}
use Rattle.lx_desk.proofs.AnyFailures.{alike}
use Rattle.lx_desk.proofs.Inputs.{all_known, whole_front, both_known}
use Rattle.lx_desk.proofs.PlacesInUse.{InUse, at_back, at_used, drop_back, take_back}

pub full_take : {K : Type 0} (n : ℕ) (outlets : List (Option K)) → IsFull outlets → IsFull (take n outlets)
full_take zero outlets full = tt
full_take (suc n) [] full = tt
full_take (suc n) (outlet ∷ outlets) full = (full.0, full_take n outlets full.1)

full_sink : {K : Type 0} (outlets : List (Option K)) → IsFull outlets → (place : ℕ) → place < length outlets → (start : K)
    × (slice_get outlets place ≡ Some (Some start))
full_sink [] full place lt = absurd (omega arith)
full_sink (Some start ∷ outlets) full zero lt = (start, refl)
full_sink (None ∷ outlets) full zero lt = absurd cc
full_sink (outlet ∷ outlets) full (suc place) lt = full_sink outlets full.1 place (omega arith)

-- a live run ends as a script does
run_ends : (session : Result Tally SessionFault) (results : List (Option SinkFault)) (unsent : ℕ) (s : Status)
    → TellsRun session results unsent s → EndsScript s
run_ends (Ok tally) results unsent status.Ok tells = tt
run_ends (Ok tally) results unsent status.WriteFault tells = tt
run_ends (Ok tally) results unsent status.Memory tells = tt
run_ends (Ok tally) results unsent s tells = absurd tells
run_ends (Err fault) results unsent s tells = subst EndsScript (sym tells) (ends_script (Err fault))

-- Ok tells of no fault of an outlet
ok_tells : (session : Result Tally SessionFault) (results : List (Option SinkFault)) (unsent : ℕ) (s : Status)
    → TellsRun session results unsent s → s ≡ status.Ok → TellsOutlets results unsent status.Ok
ok_tells (Ok tally) results unsent s tells ok = subst (λ (t : Status). TellsOutlets results unsent t) ok tells
ok_tells (Err faults.ReadFault) results unsent s tells ok = let bad : status.ReadFault ≡ status.Ok = sym tells ∙ ok in absurd cc
ok_tells (Err fault) results unsent s tells ok = let bad : status_for {A = Tally} (Err fault) ≡ status.Ok = sym tells ∙ ok in absurd cc

-- commands that stay unpublished are so since the writer's heap refused some
unsent_rose : (n before after : ℕ) → (HasStood before after → n ≡ 0) → 0 < n → Rose before after
unsent_rose n before after sent some = elim (cases_lt after (one_more before)) [
  | inl stood ↦ absurd (omega (arith, sent stood, some))
  | inr rose ↦ rose
]

-- What an engine answered after which these commands are published or unsent, as the records of a live run tell it.
abbrev live_over : Show → List (Option ℕ) → List (List ℕ) → Session DeskState
live_over show failures lines = after_each (desk_answering false) failures (begin_at (begun (opened show))) lines

record IsLive (most : Option ℕ) (show : Show) (commands : List Command) (script lines : List (List ℕ)) (failures : List (Option ℕ)) : Type 0 where
  same : after_each (engine_answering commands) failures (begin_at (begun (opened show))) lines ≡ live_over show failures lines
  accepted : (live_over show failures lines).state.accepted ≡ commands
  allows : LiveAllows most show script failures (live_over show failures lines).state.accepted

is_live : {console : Kept} (most : Option ℕ) (show : Show) (commands : List Command) (script lines : List (List ℕ)) (failures : List (Option ℕ))
    → Allows (engine_answering commands) (begun (opened show)) script failures → IsAtMost (most_of most commands) (failed_count failures)
    → HasDone (λ done. done ≡ commands) (opened show) console
    (after_each (engine_answering commands) failures (begin_at (begun (opened show))) lines).state
    → IsLive most show commands script lines failures
is_live most show commands script lines failures allows few done =
    let same = alike (leaves_room commands) failures (begin_at (begun (opened show))) lines in
    let accepted = ap (λ (s : Session DeskState). s.state.accepted) (sym same) ∙ done.listened in
    record {
      same = same;
      accepted = accepted;
      allows = subst (λ (l : List Command). LiveAllows most show script failures l) (sym accepted) (record { allows = allows; few = few });
    }

-- A script was played with the first outlets.
module _ {S O K : Type 0} (memory : LiveMemory) {told_in : ToldBySource S} {told_out : ToldBySink O} {told : ToldBySink K} {show : Show}
    {old new : Lines S} {output output' : O} {universes : ℕ} {outlets used used' rest : List (Option K)} {console : Kept}
    {session : Result Tally SessionFault} {results : List (Option SinkFault)} {n : ℕ} (i : InUse universes outlets used rest)
    (p : HasPlayedScript memory.edits told_in told_out told show old new output output' used used' console session results n) where
  abbrev now : List (Option K)
  now = used' ++ rest

  abbrev h : Option (List ℕ)
  h = told_out.holds output

  abbrev h' : Option (List ℕ)
  h' = told_out.holds output'

  abbrev commands : List Command
  commands = p.published ++ p.held_back

  back : {place : ℕ} {start : K} → place < universes → slice_get outlets place ≡ Some (Some start)
      → OutletIsBack told show now results p.published place start
  back {place} {start} within at =
      let d = p.outlets_are in
      let b = d.each place start (at_used i place within ∙ at) in
      record {
        new = b.new;
        fault = b.fault;
        place_is = at_back i used' d.same_places place within ∙ b.place_is;
        fault_is = b.fault_is;
        delivered = b.delivered;
      }

  -- the outlets in use got what they were to get, and the others are as they were
  abbrev got : HaveGot told show universes outlets now p.published
  got =
      let d = p.outlets_are in
      record {
        results = results;
        delivered = rw (← i.front, take_back i used' d.same_places) d;
        rest = drop_back i used' d.same_places;
      }

  outlets_finish : (s : Status) → TellsRun session results n s → OutletsFinish told universes outlets now s
  outlets_finish s tells ok place start within at =
      let b = back within at in
      let none : b.fault ≡ None = (ok_tells session results n s tells ok).1 place b.fault b.fault_is in
      let kept = b.delivered.cause.kept none in
      record {
        new = b.new;
        place_is = b.place_is;
        writes_kept = kept.0;
        wants_kept = kept.1;
        handed_on = b.delivered.handed_on none;
      }

  -- an outlet with a fault failed at a write, or was out of memory
  module _ (most : universes ≤ length outlets) (full : IsFull outlets) where
    at_fault : {place : ℕ} {fault : SinkFault} → slice_get results place ≡ Some (Some fault) → (place < universes) × (start : K)
        × (slice_get outlets place ≡ Some (Some start))
    at_fault {place} {fault} at =
        let within : place < universes =
        (let count = i.count in let lt = p.outlets_are.others place fault at in omega (arith, lt, count)) in
        let from = full_sink outlets full place (omega (arith, within, most)) in
        (within, from.0, from.1)

    failed_at : (place : ℕ) → slice_get results place ≡ Some (Some sinks.Failed) → OutletFailed told outlets now
    failed_at place at =
        let from = at_fault at in
        let b = back from.0 from.2 in
        record {
          place = place;
          start = from.1;
          new = b.new;
          before = from.2;
          after = b.place_is;
          rose = b.delivered.cause.failed (same_Some b.fault (Some sinks.Failed) (sym b.fault_is ∙ at));
        }

    outlet_wanted : (place : ℕ) → slice_get results place ≡ Some (Some sinks.Memory) → OutletWanted told outlets now
    outlet_wanted place at =
        let from = at_fault at in
        let b = back from.0 from.2 in
        record {
          place = place;
          start = from.1;
          new = b.new;
          before = from.2;
          after = b.place_is;
          rose = b.delivered.cause.memory (same_Some b.fault (Some sinks.Memory) (sym b.fault_is ∙ at));
        }

    -- each fault of the outside has its cause
    live_cause : (r : Result Tally SessionFault) (s : Status) → TellsRun r results n s → HasSessionCause told_in told_out old new output output' r
        → HasLiveCause told s (source_faults told_in old) (source_faults told_in new) (told_out.faults output) (told_out.faults output') outlets now
    live_cause (Ok tally) status.Ok tells c = tt
    live_cause (Ok tally) status.WriteFault tells c = (inr (failed_at tells.0 tells.1), c.kept.0)
    live_cause (Ok tally) status.Memory tells c = c.kept.0
    live_cause (Ok tally) s tells c = absurd tells
    live_cause (Err fault) s tells c = rw tells (as_live_cause told (status_for {A = Tally} (Err fault)) _ _ _ _ _ _
        (λ is. absurd (subst EndsScript is (ends_script (Err fault)))) (has_cause (Err fault) c))

    -- and memory that was wanted has it, too
    live_wanted : (before after writers writers' : ℕ) (r : Result Tally SessionFault) (s : Status) → TellsRun r results n s
        → HasSessionCause told_in told_out old new output output' r → (HasStood writers writers' → n ≡ 0)
        → WantsLive told_out told before after writers writers' output output' outlets now s
    live_wanted before after writers writers' (Ok tally) s tells c sent = λ memory.
        let lacks : LacksMemory results n = subst (λ (t : Status). TellsOutlets results n t) memory tells in
        elim lacks.wanted [
          | inl at ↦ inr (inr (outlet_wanted at.0 at.1))
          | inr some ↦ inl (inr (unsent_rose n writers writers' sent some))
        ]
    live_wanted before after writers writers' (Err fault) s tells c sent = λ memory. inr (inl (session_wants (Err fault) c (sym tells ∙ memory)))

  -- a live run whose session had no fault is done where it tells none of the outlets
  run_finishes : (r : Result Tally SessionFault) (s : Status) → TellsRun r results n s → HasSessionCause told_in told_out old new output output' r
      → HandsOnReplies r (told_out.back output')
      → Finishes (source_faults told_in old) (source_faults told_in new) told_out output output' s
  run_finishes (Ok tally) s tells c none = all_done c.kept.0 c.kept.1 c.kept.2 none
  run_finishes (Err fault) s tells c none = rw tells (session_finishes (Err fault) c none)

  -- How a session that was played ended, by its status.
  abbrev Answers : (List ℕ) → Result Tally SessionFault → Type 0
  Answers bytes r = ScriptAnswered (engine_answering commands) (most_of memory.edits commands)
      (HasDone (λ done. done ≡ commands) (opened show) console) (begun (opened show)) (bytes_taken old) bytes (unread told_in new) (source_left told_in new) h h' r

  module _ (sent : memory.versions ≡ true → n ≡ 0) (bytes : List ℕ) where
    abbrev served : (list : List Command) → list ≡ commands → AreServed memory.versions told show universes outlets now list
    served list is = record {
      published = p.published;
      held_back = p.held_back;
      commands_are = is;
      all_published = λ known. nil_from_length p.held_back (sym p.unsent_is ∙ sent known);
      got = got;
    }

    in_front : Answers bytes (Err faults.WriteFault) → PlaysInFront memory told show universes (lines_of bytes) h h' outlets now
    in_front a =
        let lines = answered_lines (lines_of bytes) in
        let live = is_live memory.edits show commands (lines_of bytes) (take a.lines lines) a.failures a.allows a.few a.stands in
        record {
          failures = a.failures;
          lines = a.lines;
          allows = live.allows;
          text = subst (λ (s : Session DeskState). AppendsFront h h' s.text) live.same a.text;
          earlier = subst (λ (s : Session DeskState). AppendsAtLeast h h' s.text)
              (alike (leaves_room commands) a.failures (begin_at (begun (opened show)))
              (take (a.lines - 1) lines)) a.earlier;
          served = served _ live.accepted;
        }

    taken_of : Answers bytes (Err faults.ReadFault) → PlaysTaken memory told show universes old.taken bytes (source_left told_in new) h h' outlets now
    taken_of a =
        let live = is_live memory.edits show commands (lines_of bytes) (take a.cut.lines (answered_lines (lines_of bytes))) a.failures a.allows
        a.few a.stands in
        record {
          failures = a.failures;
          cut = a.cut;
          short = a.short;
          allows = live.allows;
          text = subst (λ (s : Session DeskState). Appends h h' s.text) live.same a.text;
          served = served _ live.accepted;
        }

    -- it was answered to its end
    abbrev to_end : {Told : List (Option SinkFault) → ℕ → Type 0} {tally : Tally} → Answers bytes (Ok tally) → Told results (length p.held_back)
        → PlaysToEnd memory Told told show universes (lines_of bytes) h h' outlets now
    to_end a tells =
        let live = is_live memory.edits show commands (lines_of bytes) (answered_lines (lines_of bytes)) a.failures a.allows a.few a.stands in
        record {
          failures = a.failures;
          allows = live.allows;
          text = subst (λ (s : Session DeskState). Appends h h' s.text) live.same a.text;
          served = served _ live.accepted;
          told = tells;
        }

    whole_in_front : {tally : Tally} → Answers bytes (Ok tally) → PlaysInFront memory told show universes (lines_of bytes) h h' outlets now
    whole_in_front answered =
        let a = to_end {Told = λ results unsent. Unit {0}} answered tt in
        let lines = answered_lines (lines_of bytes) in
        let all : take (length lines) lines ≡ lines = take_all (length lines) lines (omega arith) in
        let more = more_of_whole (desk_answering false) (desk_lawful false) (begun (opened show)) (lines_of bytes) a.failures (length lines - 1) in
        record {
          failures = a.failures;
          lines = length lines;
          allows = rw all a.allows;
          text = rw all (whole_front h h' (live_session show (lines_of bytes) a.failures).text a.text);
          earlier = (more.0, subst (λ (v : List ℕ). Appends h h' v) more.1 a.text);
          served = rw all a.served;
        }

    -- where all outlets had what they were to get
    plays : {tally : Tally} → Answers bytes (Ok tally) → TellsOutlets results n status.Ok
        → PlaysScript memory.edits told show universes (lines_of bytes) h h' outlets now
    plays answered ok =
        let a = to_end {Told = λ results unsent. Unit {0}} answered tt in
        let none : p.held_back ≡ [] = nil_from_length p.held_back (sym p.unsent_is ∙ ok.0) in
        record {
          failures = a.failures;
          allows = a.allows;
          text = a.text;
          versions = subst (λ (l : List Command). HaveVersions told show universes outlets now l)
              (sym (a.served.commands_are ∙ ap (λ l. p.published ++ l) none ∙ append-nil p.published)) (λ place start within at.
              let b = back within at in
              record { new = b.new; place_is = b.place_is; all = b.delivered.whole (ok.1 place b.fault b.fault_is) });
        }

    live_fault : (fault : SessionFault) → Answers bytes (Err fault) → KeepsLimit old.taken bytes (Err fault)
        → HasPlayedLive memory (status_for {A = Tally} (Err fault)) told show universes old.taken bytes (source_left told_in new) h h' outlets now
    live_fault faults.ReadFault a limit = taken_of a
    live_fault faults.InputTooLong a limit = (taken_of a, limit)
    live_fault faults.WriteFault a limit = in_front a
    live_fault faults.Memory a limit = inr (in_front a)

    live_at : (r : Result Tally SessionFault) (s : Status) → TellsRun r results n s → Answers bytes r → KeepsLimit old.taken bytes r
        → HasPlayedLive memory s told show universes old.taken bytes (source_left told_in new) h h' outlets now
    live_at (Ok tally) status.Ok tells a limit = (plays a tells, limit)
    live_at (Ok tally) status.WriteFault tells a limit = whole_in_front a
    live_at (Ok tally) status.Memory tells a limit = inr (whole_in_front a)
    live_at (Ok tally) s tells a limit = absurd tells
    live_at (Err fault) s tells a limit = rw tells (live_fault fault a limit)

  -- and in which order its faults are told: the session's own comes first
  module _ (sent : memory.versions ≡ true → n ≡ 0) where
    abbrev ToEnd : (List (Option SinkFault) → ℕ → Type 0) → Type 0
    ToEnd Told = IfSome (unread told_in old) (λ bytes. PlaysToEnd memory Told told show universes (lines_of bytes) h h' outlets now
        × (old.taken + length (bytes_wanted bytes) ≤ INPUT_BYTES))

    session_order : (fault : SessionFault) → HasSessionCause {T = Tally} told_in told_out old new output output' (Err fault)
        → DecidesInOrder (status_for {A = Tally} (Err fault)) (source_faults told_in old) (source_faults told_in new) told_out output output' outlets
        now ToEnd
    session_order faults.WriteFault c = inl c.failed
    session_order faults.Memory c = inl (inr c.failed)
    session_order fault c = tt

    order_at : (r : Result Tally SessionFault) (s : Status) → TellsRun r results n s → IfSome (unread told_in old) (λ bytes. Answers bytes r)
        → IfSome (unread told_in old) (λ bytes. KeepsLimit old.taken bytes r) → HasSessionCause told_in told_out old new output output' r
        → HandsOnReplies r (told_out.back output')
        → DecidesInOrder s (source_faults told_in old) (source_faults told_in new) told_out output output' outlets now ToEnd
    order_at (Ok tally) status.WriteFault tells answered limit c none = inr (
      record { reads_kept = c.kept.0; writes_kept = c.kept.1; wants_kept = c.kept.2; handed_on = none },
      both_known (unread told_in old) answered limit (λ bytes a keeps. (to_end sent bytes a tells, keeps)),
    )
    order_at (Ok tally) status.Memory tells answered limit c none = inr (
      record { reads_kept = c.kept.0; writes_kept = c.kept.1; wants_kept = c.kept.2; handed_on = none },
      both_known (unread told_in old) answered limit
          (λ bytes a keeps. (to_end sent bytes a (subst (λ k. LacksMemory results k) p.unsent_is tells), keeps)),
    )
    order_at (Ok tally) s tells answered limit c none = tt
    order_at (Err fault) s tells answered limit c none = rw tells (session_order fault c)

-- Memory was short at the opening, and nothing was read or written.
pub none_plays : {S O K : Type 0} {told_in : ToldBySource S} {told_out : ToldBySink O} {told : ToldBySink K} {before after writers writers' : ℕ}
    {show : Show} {universes : ℕ} {lines lines' : Lines S} {output output' : O} {outlets outlets' : List (Option K)} → lines' ≡ lines
    → output' ≡ output → outlets' ≡ outlets → before ≤ after → writers ≤ writers' → Rose before after ⊎ Rose writers writers'
    → PlaysLive told_in told_out told before after writers writers' show universes lines lines' output output' outlets outlets' status.Memory
none_plays {told_in} {lines} unread_on unwritten unplayed later writers_later short = rw (unread_on, unwritten, unplayed) (record {
  works = tt;
  played = inl refl;
  finish = λ ok place start within at. absurd cc;
  ended = λ memory refused sent. all_known (unread told_in lines) _ (λ bytes. inl (refl, refl));
  cause = refl;
  order = λ memory refused sent. inl (inl (refl, refl));
  finished = not_done (λ done. done) (λ other. other);
  wanted = λ is. inl short;
  heap_later = later;
  writers_later = writers_later;
})

-- A live run of the first outlets, by a heap that had refused so much before the opening, before the run and after it.
pub run_plays : {S O K : Type 0} {told_in : ToldBySource S} {told_out : ToldBySink O} {told : ToldBySink K}
    {first writers writers' : ℕ} (before after : ℕ) {show : Show} {universes : ℕ} {old new : Lines S} {output output' : O}
    {outlets used rest : List (Option K)} (used' : List (Option K)) {console : Kept} {session : Result Tally SessionFault}
    {results : List (Option SinkFault)} {n : ℕ} {s : Status} → InUse universes outlets used rest → universes ≤ length outlets
    → IsFull outlets → first ≤ before → before ≤ after → writers ≤ writers'
    → ByRefusals before after (λ known. HasPlayedScript known told_in told_out told show old new output output' used used' console session results n)
    → (HasStood writers writers' → n ≡ 0) → IfSome (unread told_in old) (λ bytes. KeepsLimit (bytes_taken old) bytes session)
    → HasSessionCause told_in told_out old new output output' session → HandsOnReplies session (told_out.back output')
    → TellsRun session results n s
    → PlaysLive told_in told_out told first after writers writers' show universes old new output output' outlets (used' ++ rest) s
run_plays {told_in} {first} {writers} {writers'} before after {show} {old} used' {session} {results} {n} {s} i most full opened held heard played sent
    limit cause none tells =
    let any = played None tt in
    record {
      works = run_ends session results n s tells;
      played = inr (record { show = show; published = any.published; got = got any_memory i any });
      finish = outlets_finish any_memory i any s tells;
      ended = λ memory refused stood.
          let p = played memory.edits (known_since memory.edits first before after opened refused) in
          both_known (unread told_in old) p.session_is limit
          (λ bytes a keeps. live_at memory i p (λ sure. sent (stood sure)) bytes session s tells a keeps);
      cause = live_cause any_memory i any most full session s tells cause;
      order = λ memory refused stood.
          let p = played memory.edits (known_since memory.edits first before after opened refused) in
          order_at memory i p (λ sure. sent (stood sure)) session s tells p.session_is limit cause none;
      finished = run_finishes any_memory i any session s tells cause none;
      wanted = live_wanted any_memory i any most full first after writers writers' session s tells cause sent;
      heap_later = omega (arith, opened, held);
      writers_later = heard;
    }
