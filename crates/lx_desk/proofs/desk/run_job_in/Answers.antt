use Rattle.lx_desk.proofs.Imports.{refl, None}
use Rattle.lx_desk.proofs.Jobs.{done_here}
use Rattle.lx_desk.proofs.desk.run_job_in.Goals as goal

pub returns-in-Check-clause-ended : goal.returns-in-Check-clause-ended
returns-in-Check-clause-ended g c = rw c.in-Check.is (c.check.ensures.ended None tt)

pub returns-in-Check-clause-spared : goal.returns-in-Check-clause-spared
returns-in-Check-clause-spared g c = λ most known. rw c.in-Check.is (c.check.ensures.ended most known)

pub returns-in-Sheet-clause-ended : goal.returns-in-Sheet-clause-ended
returns-in-Sheet-clause-ended g c = rw c.in-Sheet.is (c.sheet.ensures.ended None tt)

pub returns-in-Sheet-clause-spared : goal.returns-in-Sheet-clause-spared
returns-in-Sheet-clause-spared g c = λ most known. rw c.in-Sheet.is (c.sheet.ensures.ended most known)

pub returns-in-Make : goal.returns-in-Make
returns-in-Make g c =
    let made = c.make.ensures (g.S.Source.left c.args.input.now) (g.S.Source.faults c.args.input.now) in
    record {
      answered = done_here c.in-Make.is refl made.works;
      ended = rw c.in-Make.is (made.ended None tt);
      spared = λ most known. rw c.in-Make.is (made.ended most known);
      prefix = rw c.in-Make.is made.prefix;
      cause = made.accounts.cause;
      finished = made.accounts.finished;
      unread = λ cues is. refl;
      memory = made.accounts.memory;
      wanted = made.accounts.wanted;
      later = made.accounts.later;
    }

pub returns-in-Script-clause-ended : goal.returns-in-Script-clause-ended
returns-in-Script-clause-ended g c = rw c.in-Script.is (c.script.ensures.ended None tt)

pub returns-in-Script-clause-spared : goal.returns-in-Script-clause-spared
returns-in-Script-clause-spared g c = λ most known. rw c.in-Script.is (c.script.ensures.ended most known)
