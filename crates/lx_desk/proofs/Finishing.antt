-- What the status of a job says of its end, of the counts and of what is kept back, from the ends of its calls.
use Rattle.lx_desk.proofs.Imports.{◌≡◌, ◌⊎◌, inl, inr, ℕ, Result, Ok, Err, Option, List, [], ◌∙◌, sym, ap, ◌≢◌, Lines, ShowFault}
use Rattle.lx_desk.proofs.Imports.{SessionFault, Tally, HasSessionCause, Status, status_for, status_kept, IsDone, IsOfInput, Finishes}
use Rattle.lx_desk.proofs.Imports.{ToldBySink, ToldBySource, Rose, ◌≤◌, arith, refl, subst, HandsOnReplies, Accounts, HasLiveCause}
use Rattle.lx_desk.proofs.Imports.{fault_text, Puts, Refuses, SinkFault, status_of_sink, Tells, TextFault, EndsScript, HasCauseOf}
use Rattle.lx_desk.proofs.Imports.{source_faults}
use Rattle.lx_io.specs.declared.sink.SinkFault.TheVariants as sinks
use Rattle.lx_reader.specs.declared.fault.ShowFault.TheVariants as shows
use Rattle.lx_session.specs.declared.fault.SessionFault.TheVariants as faults
use Rattle.lx_desk.specs.declared.desk.Status.TheVariants as status
use Rattle.lx_desk.proofs.Inputs.{by_kind, front_nothing, kept_is, whole_front}

pub ends_script : (r : Result Tally SessionFault) → EndsScript (status_for r)
ends_script (Ok tally) = tt
ends_script (Err faults.ReadFault) = tt
ends_script (Err fault) = tt

module _ {K : Type 0} {reads reads' : ℕ} {told : ToldBySink K} {output output' : K} {s : Status} where
  -- a status that isn't that of a job that was done
  cut_short : (IsDone s → ⊥) → (s ≡ status.ReadFault → (output' ≡ output) ⊎ (told.back output' ≡ []))
      → (IsOfInput s → told.wants output' ≡ told.wants output) → Finishes reads reads' told output output' s
  cut_short undone waited want = record {
    reads_kept = λ done. absurd (undone done);
    writes_kept = λ done. absurd (undone done);
    wants_kept = λ done. absurd (undone done);
    handed_on = λ done. absurd (undone done);
    waited = waited;
    wants_alone = want;
  }

  -- nor one of the input
  pub not_done : (IsDone s → ⊥) → (IsOfInput s → ⊥) → Finishes reads reads' told output output' s
  not_done undone other =
      cut_short undone (λ is. absurd (other (subst IsOfInput (sym is) tt))) (λ of_input. absurd (other of_input))

  pub all_done : reads' ≡ reads → told.faults output' ≡ told.faults output → told.wants output' ≡ told.wants output → told.back output' ≡ []
      → Finishes reads reads' told output output' s
  all_done read write want back_none = record {
    reads_kept = λ done. read;
    writes_kept = λ done. write;
    wants_kept = λ done. want;
    handed_on = λ done. back_none;
    waited = λ is. inr back_none;
    wants_alone = λ of_input. want;
  }

  -- other reads, of which none failed where it was done
  pub finishes_as : {n m : ℕ} → (IsDone s → m ≡ n) → Finishes reads reads' told output output' s → Finishes n m told output output' s
  finishes_as kept f = record {
    reads_kept = kept;
    writes_kept = f.writes_kept;
    wants_kept = f.wants_kept;
    handed_on = f.handed_on;
    waited = f.waited;
    wants_alone = f.wants_alone;
  }

pub rose_since : (first before after : ℕ) → first ≤ before → Rose before after → Rose first after
rose_since first before after held rose = omega (arith, held, rose)

-- What was done by the last of a heap's calls, behind reads of which none failed, was so by all.
pub accounts_since : {K : Type 0} {told : ToldBySink K} {first before after reads reads' reads'' : ℕ} {output output' : K} {s : Status}
    → first ≤ before → reads' ≡ reads → Accounts told before after reads' reads'' output output' s
    → Accounts told first after reads reads'' output output' s
accounts_since {told} {first} {before} {after} {reads''} {output} {output'} {s} held same done =
    let a = subst (λ (n : ℕ). Accounts told before after n reads'' output output' s) same done in
    record {
      cause = a.cause;
      finished = a.finished;
      memory = a.memory;
      wanted = λ is. elim (a.wanted is) [ inl refused ↦ inl (rose_since first before after held refused) | inr sink ↦ inr sink ];
      later = let l = a.later in omega (arith, held, l);
    }

-- beside reads of which none is counted
no_read_fault : (s : Status) (writes writes' n : ℕ) {reads reads' : ℕ} → reads ≡ 0 → reads' ≡ 0 → HasCauseOf s reads reads' writes writes'
    → HasCauseOf s n n writes writes'
no_read_fault status.ReadFault writes writes' n none none' c = absurd (let rose = c.0 in omega (arith, none, none', rose))
no_read_fault status.WriteFault writes writes' n none none' c = (c.0, refl)
no_read_fault status.Memory writes writes' n none none' c = refl
no_read_fault status.InputTooLong writes writes' n none none' c = (refl, c.1)
no_read_fault s writes writes' n none none' c = tt

pub accounts_beside : {K : Type 0} {told : ToldBySink K} {before after reads reads' n : ℕ} {output output' : K} {s : Status} → reads ≡ 0
    → reads' ≡ 0 → Accounts told before after reads reads' output output' s → Accounts told before after n n output output' s
accounts_beside {s} none none' a = record {
  cause = no_read_fault s _ _ _ none none' a.cause;
  finished = finishes_as (λ done. refl) a.finished;
  memory = a.memory;
  wanted = a.wanted;
  later = a.later;
}

-- memory was short before anything was read or written
pub none_accounts : {K : Type 0} {told : ToldBySink K} {before after reads : ℕ} {output : K} → before ≤ after → Rose before after
    → Accounts told before after reads reads output output status.Memory
none_accounts later rose = record {
  cause = refl;
  finished = not_done (λ done. done) (λ other. other);
  memory = λ is. inl refl;
  wanted = λ is. inl rose;
  later = later;
}

dropped_undone : (fault : SessionFault) → IsDone (status_for {A = Tally} (Err fault)) → ⊥
dropped_undone faults.ReadFault done = done
dropped_undone fault done = done

-- A session.
module _ {S K : Type 0} {told_in : ToldBySource S} {told_out : ToldBySink K} {old new : Lines S} {sink sink' : K} where
  pub has_cause : (r : Result Tally SessionFault) → HasSessionCause told_in told_out old new sink sink' r
      → HasCauseOf (status_for r) (source_faults told_in old) (source_faults told_in new) (told_out.faults sink) (told_out.faults sink')
  has_cause (Ok tally) c = tt
  has_cause (Err faults.ReadFault) c = (c.failed, c.alone.0)
  has_cause (Err faults.WriteFault) c = (c.failed, c.alone)
  has_cause (Err faults.InputTooLong) c = (c.alone.0, c.alone.1.0)
  has_cause (Err faults.Memory) c = c.alone

  pub session_finishes : (r : Result Tally SessionFault) → HasSessionCause told_in told_out old new sink sink' r
      → HandsOnReplies r (told_out.back sink')
      → Finishes (source_faults told_in old) (source_faults told_in new) told_out sink sink' (status_for r)
  session_finishes (Ok tally) c none = all_done c.kept.0 c.kept.1 c.kept.2 none
  session_finishes (Err faults.ReadFault) c none = cut_short (λ done. done) (λ is. inr none) (λ of_input. c.alone.1)
  session_finishes (Err faults.WriteFault) c none = not_done (λ done. done) (λ other. other)
  session_finishes (Err faults.InputTooLong) c none = cut_short (λ done. done) (λ is. absurd cc) (λ of_input. c.alone.1.1)
  session_finishes (Err faults.Memory) c none = not_done (λ done. done) (λ other. other)

  pub session_wants : (r : Result Tally SessionFault) → HasSessionCause told_in told_out old new sink sink' r
      → status_for r ≡ status.Memory → Rose (told_out.wants sink) (told_out.wants sink')
  session_wants (Err faults.Memory) c is = c.failed
  session_wants r c is = cc

  pub session_accounts : (before : ℕ) {first after : ℕ} (r : Result Tally SessionFault) → first ≤ before → before ≤ after
      → HasSessionCause told_in told_out old new sink sink' r → HandsOnReplies r (told_out.back sink')
      → Accounts told_out first after (source_faults told_in old) (source_faults told_in new) sink sink' (status_for r)
  session_accounts before r opened held c none = record {
    cause = has_cause r c;
    finished = session_finishes r c none;
    memory = λ is. inr (session_wants r c is);
    wanted = λ is. inr (session_wants r c is);
    later = omega (arith, opened, held);
  }

  -- one whose replies were dropped by a sink without faults, and that ended by a fault, beside an output that isn't written
  dropped_cause : (fault : SessionFault) (writes : ℕ) → told_out.faults sink' ≡ 0
      → HasSessionCause {T = Tally} told_in told_out old new sink sink' (Err fault)
      → HasCauseOf (status_for {A = Tally} (Err fault)) (source_faults told_in old) (source_faults told_in new) writes writes
  dropped_cause faults.ReadFault writes none c = (c.failed, refl)
  dropped_cause faults.WriteFault writes none c = absurd (omega (arith, none, c.failed))
  dropped_cause faults.InputTooLong writes none c = (c.alone.0, refl)
  dropped_cause faults.Memory writes none c = c.alone

  pub dropped_accounts : (before : ℕ) {O : Type 0} {told : ToldBySink O} {output : O} {first after : ℕ} (fault : SessionFault) → told_out.faults sink' ≡ 0
      → told_out.wants sink' ≡ 0 → first ≤ before → before ≤ after
      → HasSessionCause {T = Tally} told_in told_out old new sink sink' (Err fault)
      → Accounts told first after (source_faults told_in old) (source_faults told_in new) output output (status_for {A = Tally} (Err fault))
  dropped_accounts before fault unfailed unwanting opened held c = record {
    cause = dropped_cause fault _ unfailed c;
    finished = cut_short (dropped_undone fault) (λ is. inl refl) (λ of_input. refl);
    memory = λ is. inl refl;
    wanted = λ is. absurd (let rose = session_wants (Err fault) c is in omega (arith, unwanting, rose));
    later = omega (arith, opened, held);
  }

-- A text that was put and handed on.
done_cause : (good : Status) (reads reads' writes writes' : ℕ) → IsDone good → HasCauseOf good reads reads' writes writes'
done_cause status.Ok reads reads' writes writes' done = tt
done_cause status.ShowRefused reads reads' writes writes' done = tt
done_cause s reads reads' writes writes' done = absurd done

module _ {K : Type 0} {told : ToldBySink K} {good : Status} {text : List ℕ} {output output' : K} (done : IsDone good) where
  pub tells_whole : (refusals : ℕ) → Puts {T = Unit {0}} told output output' (Ok tt) text → told.back output' ≡ []
      → Tells told refusals refusals good text output output' good
  tells_whole refusals put none = record {
    whole = λ is. put.whole;
    front = whole_front (told.holds output) (told.holds output') text put.whole;
    kinds = inl refl;
    accounts = λ reads. record {
      cause = done_cause good _ _ _ _ done;
      finished = all_done refl put.cause.kept.0 put.cause.kept.1 none;
      memory = λ is. absurd (subst IsDone is done);
      wanted = λ is. absurd (subst IsDone is done);
      later = omega arith;
    };
  }

  -- and one that wasn't for a fault
  pub tells_fault : (refusals : ℕ) (fault : SinkFault) → Puts {T = Unit {0}} told output output' (Err fault) text
      → Tells told refusals refusals good text output output' (status_of_sink fault)
  tells_fault refusals sinks.Failed put = record {
    whole = λ is. absurd (subst IsDone (sym is) done);
    front = put.part;
    kinds = inr (inl refl);
    accounts = λ reads. record {
      cause = (put.cause.failed refl, refl);
      finished = not_done (λ d. d) (λ other. other);
      memory = λ is. absurd cc;
      wanted = λ is. absurd cc;
      later = omega arith;
    };
  }
  tells_fault refusals sinks.Memory put = record {
    whole = λ is. absurd (subst IsDone (sym is) done);
    front = put.part;
    kinds = inr (inr refl);
    accounts = λ reads. record {
      cause = refl;
      finished = not_done (λ d. d) (λ other. other);
      memory = λ is. inr (put.cause.memory refl);
      wanted = λ is. inr (put.cause.memory refl);
      later = omega arith;
    };
  }

-- memory was short before it was put
pub tells_none : {K : Type 0} {told : ToldBySink K} {before after : ℕ} {good : Status} {text : List ℕ} {output : K} → IsDone good → before ≤ after
    → Rose before after → Tells told before after good text output output status.Memory
tells_none {told} {text} {output} done later rose = record {
  whole = λ is. absurd (subst IsDone (sym is) done);
  front = front_nothing (told.holds output) text;
  kinds = inr (inr refl);
  accounts = λ reads. none_accounts later rose;
}

-- The line of a refused show.
kinds_cut : {s : Status} {P : Type 0} → (s ≡ status.ShowRefused) ⊎ ((s ≡ status.WriteFault) ⊎ (s ≡ status.Memory))
    → (s ≡ status.ReadFault) ⊎ (s ≡ status.InputTooLong) → P
kinds_cut {s} {P} kinds is = elim is [
  | inl read ↦ by_kind status.ShowRefused s (λ t. t ≡ status.ReadFault → P) kinds (λ e. absurd cc) (λ e. absurd cc) (λ e. absurd cc) read
  | inr long ↦ by_kind status.ShowRefused s (λ t. t ≡ status.InputTooLong → P) kinds (λ e. absurd cc) (λ e. absurd cc) (λ e. absurd cc) long
]

pub refuses_text : {K : Type 0} {told : ToldBySink K} {fault : TextFault} {output output' : K} {s : Status}
    → Tells told 0 0 status.ShowRefused (fault_text fault) output output' s → Refuses told (shows.Text fault) output output' s
refuses_text {told} {fault} {output} {output'} t = record {
  refused = inl (record { text = fault; told = refl; whole = t.whole; front = t.front; kinds = t.kinds });
  write = λ is. (subst (λ v. HasCauseOf v 0 0 (told.faults output) (told.faults output')) is (t.accounts 0).cause).0;
  finished = λ reads. (t.accounts reads).finished;
  memory = (t.accounts 0).memory;
  wanted = λ is. inr (elim ((t.accounts 0).wanted is) [ inl rose ↦ absurd (omega (arith, rose)) | inr sink ↦ sink ]);
  untouched = λ which. kinds_cut t.kinds which;
}

-- and any other fault, of which nothing is written
other_not_done : (fault : ShowFault) (s : Status) → status_kept fault s → IsDone s → ⊥
other_not_done fault s kept = kept_is fault s (λ f t. IsDone t → ⊥) kept (λ done. done) (λ done. done) (λ done. done)

pub refuses_other : {K : Type 0} {told : ToldBySink K} (fault : ShowFault) (s : Status) {output : K} → status_kept fault s
    → Refuses told fault output output s
refuses_other {told} fault s {output} kept = record {
  refused = inr (record { kept = refl; is = kept });
  write = λ is. kept_is fault s (λ f t. t ≡ status.WriteFault → Rose (told.faults output) (told.faults output)) kept (λ e. absurd cc)
      (λ e. absurd cc) (λ e. absurd cc) is;
  finished = λ reads. cut_short (other_not_done fault s kept) (λ is. inl refl) (λ of_input. refl);
  memory = λ is. inl refl;
  wanted = λ is. inl (kept_is fault s (λ f t. t ≡ status.Memory → f ≡ shows.Memory) kept (λ e. absurd cc) (λ e. absurd cc) (λ e. refl) is);
  untouched = λ which. refl;
}

-- A show that isn't read: where its line was written, no read had failed.
module _ {K : Type 0} {told : ToldBySink K} {fault : ShowFault} {output output' : K} {s : Status} (t : Refuses told fault output output' s)
    {reads reads' : ℕ} (read : fault ≡ shows.ReadFault → Rose reads reads') (kept : fault ≢ shows.ReadFault → reads' ≡ reads) where
  refused_cause : HasCauseOf s reads reads' (told.faults output) (told.faults output')
  refused_cause = elim t.refused [
    | inl text ↦
        let same : reads' ≡ reads = kept (λ is. let odd : shows.Text text.text ≡ shows.ReadFault = sym text.told ∙ is in cc) in
        by_kind status.ShowRefused s (λ v. (v ≡ status.WriteFault → Rose (told.faults output) (told.faults output'))
        → HasCauseOf v reads reads' (told.faults output) (told.faults output')) text.kinds (λ write. tt) (λ write. (write refl, same))
        (λ write. same) t.write
    | inr other ↦ kept_is fault s (λ f v. (f ≡ shows.ReadFault → Rose reads reads') → (f ≢ shows.ReadFault → reads' ≡ reads)
        → ((v ≡ status.ReadFault) ⊎ (v ≡ status.InputTooLong) → output' ≡ output)
        → HasCauseOf v reads reads' (told.faults output) (told.faults output')) other.is
        (λ rose same alone. (rose refl, ap told.faults (alone (inl refl))))
        (λ rose same alone. (same (λ odd. cc), ap told.faults (alone (inr refl))))
        (λ rose same alone. same (λ odd. cc)) read kept t.untouched
  ]

  pub refused_accounts : {first before : ℕ} → (fault ≡ shows.Memory → Rose first before) → first ≤ before
      → Accounts told first before reads reads' output output' s
  refused_accounts short held = record {
    cause = refused_cause;
    finished = finishes_as (λ done. elim t.refused [
      | inl text ↦ kept (λ is. let odd : shows.Text text.text ≡ shows.ReadFault = sym text.told ∙ is in cc)
      | inr other ↦ absurd (other_not_done fault s other.is done)
    ]) (t.finished reads);
    memory = t.memory;
    wanted = λ is. elim (t.wanted is) [ inl memory ↦ inl (short memory) | inr sink ↦ inr sink ];
    later = held;
  }

-- what has its cause as another job has it as a live run
pub as_live_cause : {K : Type 0} (told : ToldBySink K) (s : Status) (reads reads' writes writes' : ℕ) (outlets outlets' : List (Option K))
    → (s ≡ status.ShowRefused → outlets' ≡ outlets) → HasCauseOf s reads reads' writes writes'
    → HasLiveCause told s reads reads' writes writes' outlets outlets'
as_live_cause told status.WriteFault reads reads' writes writes' outlets outlets' kept c = (inl c.0, c.1)
as_live_cause told status.ShowRefused reads reads' writes writes' outlets outlets' kept c = kept refl
as_live_cause told s reads reads' writes writes' outlets outlets' kept c = c
