use Rattle.lx_desk.proofs.Imports.{EndsJob, EndsScript, inl, inr, None, arith, known_since, refl, sym, ap, ◌∙◌, subst, Err}
use Rattle.lx_desk.proofs.Finishing.{finishes_as, refused_accounts, rose_since}
use Rattle.lx_desk.proofs.Endings.{refusal_ends}
use Rattle.lx_desk.proofs.CrewEnds.{crew_ended, crew_front, refused_cause, refused_ended, refused_front, served_cause}
use Rattle.lx_desk.proofs.crew.run_crew_in.Goals as goal

pub returns-in-Ok : goal.returns-in-Ok
returns-in-Ok g c =
    let l = c.new-lines.ensures in
    let r = c.in-Ok.ensures in
    let t = c.serve.ensures in
    let same = c.input-1.given.1 (sym (r.same_reference ∙ l.same_reference)) in
    let kept = r.kept (λ odd. cc) ∙ ap g.I.Source.faults l.source in
    record {
      words = (λ is. subst EndsScript is t.works, λ is. subst EndsScript is t.works, t.places);
      ended = rw (← l.unread) (crew_ended r.answer l.taken (t.served None tt) _);
      spared = λ most known. rw (← l.unread) (crew_ended r.answer l.taken (t.served most (known_since most _ _ _ r.cause.later known)) _);
      prefix = rw (← l.unread) (crew_front r.answer t.prefix);
      cause = served_cause _ c.serve.result _ _ _ _ _ _ _ (ap g.I.Source.faults same ∙ kept) t.works t.read t.none_failed t.write;
      finished = rw same (finishes_as (λ done. kept) (t.finished 0));
      memory = t.memory;
      unread = t.unread;
      handed_on = t.handed_on;
      wanted = λ is. elim (t.wanted is) [
        | inl heaps ↦ inl (elim heaps [ inl refused ↦ inl (rose_since _ _ _ r.cause.later refused) | inr queue ↦ inr queue ])
        | inr sink ↦ inr sink
      ];
      later = omega (arith, r.cause.later, t.later);
      queues_later = t.queues_later;
    }

pub returns-in-Err : goal.returns-in-Err
returns-in-Err g c =
    let l = c.new-lines.ensures in
    let r = c.in-Err.ensures in
    let t = c.refuse.ensures in
    let same = c.input-1.given.1 (sym (r.same_reference ∙ l.same_reference)) in
    let a = refused_accounts t (λ is. r.read (ap Err is)) (λ other. r.kept (λ is. other (cc))) r.cause.failed r.cause.later in
    let before = ap g.I.Source.faults l.source in
    record {
      words = (
        λ is. subst EndsJob is (refusal_ends t.refused),
        λ is. subst EndsJob is (refusal_ends t.refused),
        record { same_places = refl; full = c.requires.full; others = refl },
      );
      ended = rw (same, ← l.unread) (refused_ended c.args.form c.args.count None g.I.Source g.S.Source c.new-lines.result
          c.read_show_in.new.lines c.args.operators.now l.taken r.answer t.refused);
      spared = λ most known. rw (same, ← l.unread) (refused_ended c.args.form c.args.count most g.I.Source g.S.Source c.new-lines.result
          c.read_show_in.new.lines c.args.operators.now l.taken r.answer t.refused);
      prefix = rw (← l.unread) (refused_front c.args.form c.args.count g.I.Source g.S.Source c.new-lines.result c.read_show_in.new.lines
          c.args.operators.now r.answer t.refused);
      cause = rw (same, ← before) (refused_cause g.S.Source c.refuse.result _ _ _ _ c.args.count c.args.operators.now a.cause);
      finished = rw (same, ← before) a.finished;
      memory = t.memory;
      unread = λ is. inl refl;
      handed_on = λ which. inl (t.untouched which);
      wanted = λ is. elim (a.wanted is) [ inl refused ↦ inl (inl refused) | inr sink ↦ inr sink ];
      later = r.cause.later;
      queues_later = omega arith;
    }
