use Rattle.lx_desk.proofs.Imports.{refl, arith, EndsScript, opened, known_since}
use Rattle.lx_desk.specs.declared.desk.Status.TheVariants as status
use Rattle.lx_desk.proofs.Inputs.{by_kind}
use Rattle.lx_desk.proofs.Finishing.{accounts_since}
use Rattle.lx_desk.proofs.MadeEndings.{not_told, fault_tells, session_told}
use Rattle.lx_desk.proofs.make.tell_session.Goals as goal

pub returns-in_default : goal.returns-in_default
returns-in_default g c = not_told c.in_default.ensures.cause.later c.in_default.ensures.cause.failed

pub returns-in-Ok-session_in : goal.returns-in-Ok-session_in
returns-in-Ok-session_in g c =
    let s = c.in-Ok-session_in.ensures in
    let t = c.finish.ensures (g.H.Heap.refusals c.session_in.new.heap) c.args.output.now _ c.put_report.ensures in
    record {
      works = by_kind status.Ok c.finish.result EndsScript t.kinds tt tt tt;
      ended = λ most known.
          session_told c.args.cues _ (opened c.args.show) _ _ _ _ _ c.in-Ok-session_in.tally c.report_on.result c.report_on.ensures most _ _
          c.finish.result t.kinds t.whole t.front
          (s.outcome most (known_since most _ _ _ c.in-Ok.ensures.cause.later known) (opened c.args.show) c.in-Ok.ensures.stands) s.limit;
      accounts = accounts_since (omega (arith, c.in-Ok.ensures.cause.later, s.later)) s.cause.kept.0
          (t.accounts (g.S.Source.faults c.session_in.new.lines.source.now));
    }

pub returns : goal.returns
returns g c =
    let e = c.in-Err.ensures in
    rw c.status_of.ensures (fault_tells _ c.in-Err.fault refl refl c.in-Ok.ensures.cause.later e.later e.cause e.limit)
