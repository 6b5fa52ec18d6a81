use Rattle.lx_desk.proofs.Imports.{sym}
use Rattle.lx_desk.proofs.MadeEndings.{not_made}
use Rattle.lx_desk.proofs.make.make.Goals as goal

pub returns-in-Ok : goal.returns-in-Ok
returns-in-Ok g c = λ left reads. rw (sym c.in-Ok.ensures.cause.kept) (c.make_of.ensures left reads)

pub returns-in-Err : goal.returns-in-Err
returns-in-Err g c = λ left reads. not_made c.in-Err.ensures.cause.later c.in-Err.ensures.cause.failed
