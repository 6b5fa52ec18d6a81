use Rattle.lx_embed.proofs.Imports.{◌≡◌, Some, not, ◌∙◌, sym, ap, subst, Kept, StandsFor}
use Rattle.std.proofs.lemmas.Bool.{not-false}
use Rattle.lx_spec.specs.Output.{frame}
use Rattle.lx_embed.proofs.desk.HostDesk.changed.Goals as goal

pub returns-clause-changed : goal.returns-clause-changed
returns-clause-changed c = λ d stands.
    let same : c.frame_of-slots.result.now ≡ frame d c.args.universe =
    c.frame_of-slots.ensures.frame d (subst (λ (k : Kept). StandsFor d k) (sym c.console.ensures) stands) in
    (λ e. c.are.ensures.0 (not-false c.are.result e) ∙ ap Some same, λ e. ap not (c.are.ensures.1 (e ∙ ap Some (sym same))))
