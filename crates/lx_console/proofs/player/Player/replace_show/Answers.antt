use Rattle.lx_console.proofs.Imports.{◌∙◌, ap, sym, subst, ℕ, List, Show, Kept, StandsFor}
use Rattle.lx_console.proofs.Obedience.{stands_with}
use Rattle.lx_console.proofs.OutputChanges.{kept_in}
use Rattle.lx_console.proofs.player.Player.replace_show.Goals as goal

pub returns-clause-stands : goal.returns-clause-stands
returns-clause-stands c = λ d stands.
    let before : Kept = kept_in c.self.inside in
    let levers : List ℕ = c.changed.new.self.faders in
    stands_with c.args.show
    (ap (λ (s : Show). record before { show = s; faders = levers }) c.replace-before.ensures.after
    ∙ ap (λ (f : List ℕ). record before { show = c.args.show; faders = f }) c.changed.ensures.faders)
    (subst (StandsFor d) (sym c.self.view_is) stands)
