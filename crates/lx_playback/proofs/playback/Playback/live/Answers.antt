use Rattle.lx_playback.proofs.Imports.{List, reverse, subst, sym, ◌∙◌, ap, AllByRecursion, Run, Playback, NewestFirst, ValidRun}
use Rattle.lx_playback.proofs.Backwards.{All-backwards, oldest_first}
use Rattle.lx_playback.proofs.playback.Playback.live.Goals as goal

pub returns-clause-each : goal.returns-clause-each
returns-clause-each c =
    let all : AllByRecursion (ValidRun c.args.self.now.moment) c.args.self.now.live =
    subst (λ (p : Playback). AllByRecursion (ValidRun p.moment) p.live) c.self.view_is c.self.invariant.valid.live in
    All-backwards (ValidRun c.args.self.now.moment) c.as_slice.result.now
    (subst (λ (runs : List Run). AllByRecursion (ValidRun c.args.self.now.moment) runs)
    (sym (ap reverse c.as_slice.ensures.value ∙ ap (λ (p : Playback). p.live) c.self.view_is)) all)

pub returns-clause-order : goal.returns-clause-order
returns-clause-order c = oldest_first c.as_slice.result.now
    (subst NewestFirst (sym (ap reverse c.as_slice.ensures.value)) c.self.invariant.valid.order)
