use Rattle.lx_edit.proofs.Imports.{refl, Time, with_part, with_time, with_placed_part}
use Rattle.lx_edit.proofs.CuePlans.{places, valid_part, valid_time}
use Rattle.lx_edit.proofs.cue_edits.time.Goals as goal

pub returns-clause-plan : goal.returns-clause-plan
returns-clause-plan g c =
    let channels = c.args.show.now.channels in
    let old = c.in_ok-old.old.now in
    let here = c.in_ok-old.ensures in
    let found = c.in_ok-part.ensures in
    let part = with_time c.in_ok-part.part c.args.rising c.args.time c.args.delay in
    let valid = with_placed_part channels old part here.valid (valid_time c.in_ok-part.part c.args.rising c.args.time c.args.delay
    (valid_part channels c.args.p old c.in_ok-part.part here.valid found) c.requires.time c.requires.delay) in
    rw (c.put_part.ensures, c.in_ok-cue.ensures.cue, c.with_time.ensures)
    (places c.args.show.now (Time c.args.n c.args.p c.args.rising c.args.time c.args.delay) c.args.n old (with_part old part) here refl valid
    (rw (here.found, found) refl) refl refl)
