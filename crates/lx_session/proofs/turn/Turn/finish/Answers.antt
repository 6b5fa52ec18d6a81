use Rattle.lx_session.proofs.Imports.{ℕ, Option, refl, sym, subst, ◌∙◌, IfSome, UNIVERSES, InRange, StandsFor}
use Rattle.lx_session.proofs.Replies.{frame_is, on_ok}
use Rattle.lx_session.proofs.turn.Turn.finish.Goals as goal

pub put_universe-requires-clause-least : goal.put_universe-requires-clause-least
put_universe-requires-clause-least g c =
    (subst (λ (o : Option ℕ). IfSome o (InRange UNIVERSES)) c.in-Some.is c.frame_universe.ensures.valid).least

pub put_universe-requires-clause-most : goal.put_universe-requires-clause-most
put_universe-requires-clause-most g c =
    (subst (λ (o : Option ℕ). IfSome o (InRange UNIVERSES)) c.in-Some.is c.frame_universe.ensures.valid).most

pub returns-in-Some-clause-text : goal.returns-in-Some-clause-text
returns-in-Some-clause-text g c = λ d stands.
    rw (frame_is _ _ (sym c.frame_universe.ensures.universe ∙ c.in-Some.is)) (c.put_universe.ensures.text d stands)

pub returns-in-Some-clause-counts : goal.returns-in-Some-clause-counts
returns-in-Some-clause-counts g c = λ d stands.
    rw (frame_is _ _ (sym c.frame_universe.ensures.universe ∙ c.in-Some.is)) (on_ok c.put_universe.result _ refl)

pub returns-in-Some-clause-quit : goal.returns-in-Some-clause-quit
returns-in-Some-clause-quit g c = rw (frame_is _ _ (sym c.frame_universe.ensures.universe ∙ c.in-Some.is)) c.put_universe.ensures.more

pub returns-in-None-clause-text : goal.returns-in-None-clause-text
returns-in-None-clause-text g c = λ d stands. c.finish_without_frame.ensures.text d (subst (StandsFor d) (sym c.player.ensures) stands)

pub returns-in-None-clause-counts : goal.returns-in-None-clause-counts
returns-in-None-clause-counts g c = λ d stands. c.finish_without_frame.ensures.counts d (subst (StandsFor d) (sym c.player.ensures) stands)
