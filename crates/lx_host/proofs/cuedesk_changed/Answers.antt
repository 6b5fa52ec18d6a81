use Rattle.lx_host.proofs.cuedesk_changed.Goals as goal

pub returns-in-Some-clause-changed : goal.returns-in-Some-clause-changed
returns-in-Some-clause-changed c = λ ok. rw (c.take-host.ensures.held, ← c.deref.ensures) c.in-Some.ensures.changed
