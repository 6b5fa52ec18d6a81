use Rattle.lx_crew.proofs.Imports.{rules, ◌≡◌, ◌+◌, length, ap, sym, refl, ◌∙◌, subst, None, arith, length_push, view, View, HasSentLines}
use Rattle.lx_crew.proofs.SentLines.{sent_none, sent_more, sent_all, sent_to_quit, next_number, took_before}
use Rattle.lx_crew.proofs.operator.send_lines.Goals as goal

pub loop-init : goal.loop-init
loop-init g c = record {
  can = tt;
  finite = tt;
  same = (refl, refl, refl);
  name = refl;
  so_far = sent_none _ c.args.place _ _ c.new-lines.ensures.going c.requires.view;
}

pub send-requires-clause-next : goal.send-requires-clause-next
send-requires-clause-next g c =
    let n = next_number _ _ _ _ _ c.loop.invariant.so_far c.new-lines.ensures.number in
    omega (arith, n, c.number-number.ensures)

pub loop-preserved : goal.loop-preserved
loop-preserved g c =
    let i = c.loop.invariant in
    let n = next_number _ _ _ _ _ i.so_far c.new-lines.ensures.number in
    let line = took_before _ _ _ c.take_next-sent.result _ c.take_next-sent.ensures.took (sym c.what_follows-after.ensures ∙ c.in-Lines.is) in
    record {
      can = tt;
      finite = tt;
      same = search rules;
      name = c.take_next-sent.ensures.same_source ∙ i.name;
      so_far = sent_more _ c.args.place _ _ _ (view c.loop.pass) (view c.send.new.pass) _ i.so_far line refl
          (omega (arith, n, c.number-number.ensures)) c.send.ensures.view;
    }

pub send-requires-in-End-clause-next : goal.send-requires-in-End-clause-next
send-requires-in-End-clause-next g c =
    let n = next_number _ _ _ _ _ c.loop.invariant.so_far c.new-lines.ensures.number in
    let more : length (view c.send.new.pass).pushed ≡ length (view c.loop.pass).pushed + 1 =
    ap (λ (v : View). length v.pushed) c.send.ensures.view ∙ length_push (view c.loop.pass).pushed _ in
    omega (arith, n, c.number-number.ensures, more)

pub returns-in-End-clause-sent : goal.returns-in-End-clause-sent
returns-in-End-clause-sent g c =
    let i = c.loop.invariant in
    let n = next_number _ _ _ _ _ i.so_far c.new-lines.ensures.number in
    let quit = took_before _ _ _ c.take_next-sent.result _ c.take_next-sent.ensures.took (sym c.what_follows-after.ensures ∙ c.in-End.is) in
    let same = c.source-in-End-1.given.1 (sym (c.take_next-sent.ensures.same_source ∙ (i.name ∙ c.new-lines.ensures.same_reference))) in
    subst (λ s. HasSentLines g.S.Source c.args.place c.args.source.now s (view c.send-in-End.new.pass) None) (sym same)
    (sent_to_quit _ c.args.place c.args.source.now c.new-lines.result c.loop.lines c.take_next-sent.new.lines (view c.loop.pass)
    (view c.send.new.pass) (view c.send-in-End.new.pass) _ _
    (record { unread = c.new-lines.ensures.unread; taken = c.new-lines.ensures.taken; now = c.new-lines.ensures.source }) i.so_far quit
    refl (omega (arith, n, c.number-number.ensures)) c.send.ensures.view refl refl c.send-in-End.ensures.view)

pub returns-in-Nothing-clause-sent : goal.returns-in-Nothing-clause-sent
returns-in-Nothing-clause-sent g c =
    let i = c.loop.invariant in
    let end = took_before _ _ _ c.take_next-sent.result _ c.take_next-sent.ensures.took
    (sym c.what_follows-after.ensures ∙ c.in-Nothing.is) in
    let same = c.in-Nothing.source-in-Nothing-1-own.given.1
    (sym (c.take_next-sent.ensures.same_source ∙ (i.name ∙ c.new-lines.ensures.same_reference))) in
    subst (λ s. HasSentLines g.S.Source c.args.place c.args.source.now s (view c.send.new.pass) c.in-Nothing.fault) (sym same)
    (sent_all _ c.args.place c.args.source.now c.new-lines.result c.loop.lines c.take_next-sent.new.lines (view c.loop.pass)
    (view c.send.new.pass) _ c.in-Nothing.fault
    (record { unread = c.new-lines.ensures.unread; taken = c.new-lines.ensures.taken; now = c.new-lines.ensures.source }) i.so_far
    c.take_next-sent.ensures.later end refl c.send.ensures.view)
