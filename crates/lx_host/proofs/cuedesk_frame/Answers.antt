use Rattle.lx_host.proofs.Imports.{rules, ◌≡◌}
use Rattle.std.proofs.Common.{Some}
use Rattle.lx_host.proofs.cuedesk_frame.Goals as goal

pub returns-then-copied-clause-frame : goal.returns-then-copied-clause-frame
returns-then-copied-clause-frame c = λ ok.
    let f = c.frame-copied.ensures in
    let now : c.of.result.handle.held ≡ Some c.frame-copied.new.self = search rules in
    rw (c.take-host.ensures.held, ← c.deref_mut.ensures.value, now) (record {
      frame = f.frame c.if-copied.true;
      taken = f.taken c.if-copied.true;
      others = f.others;
      engine = f.kept.0;
      reply = f.kept.1.0;
      heap = f.kept.1.1;
    })
