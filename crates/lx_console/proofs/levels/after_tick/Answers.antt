use Rattle.lx_console.proofs.Imports.{◌∙◌, sym}
use Rattle.lx_console.proofs.RunChanges.{stands_started, stands_same}
use Rattle.lx_console.proofs.levels.after_tick.Goals as goal

pub settled-requires-clause-moment : goal.settled-requires-clause-moment
settled-requires-clause-moment c = (c.to_moment-changed.ensures.stands c.args.show.now c.requires.ticked.before
    c.requires.ticked.stood).moment ∙ c.moment.ensures.moment

pub returns-then-ticked-clause-stands : goal.returns-then-ticked-clause-stands
returns-then-ticked-clause-stands c = c.settled.ensures c.args.show.now
    (sym (c.to_moment-changed.ensures.stands c.args.show.now c.requires.ticked.before c.requires.ticked.stood).reach) c.requires.rows

pub run_added-requires-clause-stood : goal.run_added-requires-clause-stood
run_added-requires-clause-stood c =
    stands_started c.moment.ensures.moment
    (c.to_moment-changed.ensures.stands c.args.show.now c.requires.ticked.before c.requires.ticked.stood)
    (c.requires.ticked.started c.if-ticked.false (sym c.is_some.ensures ∙ c.if-is_some.true))

pub returns-clause-stands : goal.returns-clause-stands
returns-clause-stands c =
    stands_same c.moment.ensures.moment
    (c.to_moment-changed.ensures.stands c.args.show.now c.requires.ticked.before c.requires.ticked.stood)
    (c.requires.ticked.same c.if-ticked.false (sym c.is_some.ensures ∙ c.if-is_some.false))
