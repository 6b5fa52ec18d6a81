use Rattle.lx_host.proofs.Told.{fault_told}
use Rattle.lx_host.proofs.open_with.Goals as goal

pub returns-in-Err-clause-refused : goal.returns-in-Err-clause-refused
returns-in-Err-clause-refused g c = λ refused.
    rw (← c.form_for.ensures) ((fault_told _ _ _ _ c.args.report.now _ c.tell_fault.ensures.status c.tell_fault.ensures.report
    c.in-Err.ensures.refuses).refused refused)

pub returns-in-Err-clause-long : goal.returns-in-Err-clause-long
returns-in-Err-clause-long g c = λ long.
    (fault_told _ _ _ _ c.args.report.now _ c.tell_fault.ensures.status c.tell_fault.ensures.report c.in-Err.ensures.refuses).long long

pub returns-in-Err-clause-wanted : goal.returns-in-Err-clause-wanted
returns-in-Err-clause-wanted g c = λ wanted.
    c.in-Err.ensures.wanted.failed
    ((fault_told _ _ _ _ c.args.report.now _ c.tell_fault.ensures.status c.tell_fault.ensures.report c.in-Err.ensures.refuses).memory wanted)

pub returns-in-Err-clause-statuses : goal.returns-in-Err-clause-statuses
returns-in-Err-clause-statuses g c =
    (fault_told _ _ _ _ c.args.report.now _ c.tell_fault.ensures.status c.tell_fault.ensures.report c.in-Err.ensures.refuses).statuses

pub returns-in-Err-clause-report : goal.returns-in-Err-clause-report
returns-in-Err-clause-report g c =
    (fault_told _ _ _ _ c.args.report.now _ c.tell_fault.ensures.status c.tell_fault.ensures.report c.in-Err.ensures.refuses).report
