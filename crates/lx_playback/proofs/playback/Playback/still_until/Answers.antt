use Rattle.lx_playback.proofs.Imports.{arith, ap, sym, subst, ◌∙◌, ◌≡◌, None, Some, ◌+◌, nat_le, list_all, extent, Playback}
use Rattle.lx_playback.proofs.QuietTicks.{pending_still, live_still}
use Rattle.lx_playback.proofs.playback.Playback.still_until.Goals as goal

pub returns-in-Some-clause-still : goal.returns-in-Some-clause-still
returns-in-Some-clause-still c = λ m after most.
    let pending : c.args.self.now.pending ≡ Some c.in-Some.due = ap (λ (p : Playback). p.pending) (sym c.self.view_is) ∙ c.in-Some.is in
    pending_still c.args.self.now c.in-Some.due m pending (omega (arith, after, most, c.before-in-Some.ensures))

pub returns-in-None-2-clause-still : goal.returns-in-None-2-clause-still
returns-in-None-2-clause-still c = λ m after most.
    let none : c.args.self.now.pending ≡ None = ap (λ (p : Playback). p.pending) (sym c.self.view_is) ∙ c.in-None.is in
    live_still c.args.self.now c.self.inside.over_at m none
    (subst (λ (p : Playback). list_all (λ run. nat_le (run.start + extent run) m) p.live ≡ nat_le c.self.inside.over_at m)
    c.self.view_is (c.self.invariant.over m))
    (omega (arith, after, most, c.before-in-None-2.ensures))
