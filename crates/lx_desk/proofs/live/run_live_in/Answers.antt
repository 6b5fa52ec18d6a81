use Rattle.lx_desk.proofs.Imports.{EndsJob, EndsScript, inl, inr, refl, arith, known_since, sym, ap, ◌∙◌, subst, Err}
use Rattle.lx_desk.proofs.Finishing.{as_live_cause, finishes_as, refused_accounts, rose_since}
use Rattle.lx_desk.proofs.Inputs.{refusal_isnt_ok}
use Rattle.lx_desk.proofs.Endings.{refusal_ends}
use Rattle.lx_desk.proofs.LiveEnds.{live_ended, live_order, order_refused, refused_lived}
use Rattle.lx_desk.proofs.live.run_live_in.Goals as goal

pub returns-in-Ok : goal.returns-in-Ok
returns-in-Ok g c =
    let l = c.new-lines.ensures in
    let r = c.in-Ok.ensures in
    let p = c.play_live.ensures.plays in
    let same = c.input-1.given.1 (sym (c.play_live.ensures.same_source ∙ r.same_reference ∙ l.same_reference)) in
    let kept = r.kept (λ odd. cc) ∙ ap g.S.Source.faults l.source in
    record {
      outlets = (λ is. subst EndsScript is p.works, p.played, λ is. subst EndsScript is p.works, p.finish);
      ended = λ known refused sent. rw (same, ← l.unread) (live_ended r.answer l.taken known g.K.Sink c.args.universes _ _ _ _ _ _
          (p.ended known (known_since known.edits _ _ _ r.cause.later refused) sent));
      cause = rw (same, ← kept) p.cause;
      order = λ known refused sent. rw (same, ← kept, ← l.unread) (live_order r.answer l.taken known g.K.Sink c.args.universes _ _ _ _ _ _ _ _ _ _
          (p.order known (known_since known.edits _ _ _ r.cause.later refused) sent));
      finished = rw same (finishes_as (λ done. p.finished.reads_kept done ∙ kept) p.finished);
      wanted = λ is. elim (p.wanted is) [
        | inl heaps ↦ inl (elim heaps [ inl refused ↦ inl (rose_since _ _ _ r.cause.later refused) | inr writer ↦ inr writer ])
        | inr sinks ↦ inr sinks
      ];
      later = omega (arith, r.cause.later, p.heap_later);
      writers_later = p.writers_later;
    }

pub returns-in-Err : goal.returns-in-Err
returns-in-Err g c =
    let l = c.new-lines.ensures in
    let r = c.in-Err.ensures in
    let t = c.refuse.ensures in
    let same = c.in-Err.input-in-Err-1-own.given.1 (sym (r.same_reference ∙ l.same_reference)) in
    let a = refused_accounts t (λ is. r.read (ap Err is)) (λ other. r.kept (λ is. other (cc))) r.cause.failed r.cause.later in
    let before = ap g.S.Source.faults l.source in
    record {
      outlets = (
        λ is. subst EndsJob is (refusal_ends t.refused),
        inl refl,
        λ is. subst EndsJob is (refusal_ends t.refused),
        λ ok place start within at. refusal_isnt_ok _ t.refused ok,
      );
      ended = λ known refused sent. rw (same, ← l.unread) (refused_lived known c.args.form c.args.universes g.S.Source g.K.Sink c.new-lines.result
          c.read_show_in.new.lines c.args.outlets.now c.refuse.result l.taken r.answer t.refused);
      cause = rw (same, ← before) (as_live_cause g.K.Sink c.refuse.result _ _ _ _ _ _ (λ is. refl) a.cause);
      order = λ known refused sent. order_refused c.refuse.result _ _ g.O.Sink _ _ c.args.outlets.now _ t.write t.memory;
      finished = rw (same, ← before) a.finished;
      wanted = λ is. elim (a.wanted is) [ inl refused ↦ inl (inl refused) | inr sink ↦ inr (inl sink) ];
      later = r.cause.later;
      writers_later = omega arith;
    }
