use Rattle.lx_mixer.proofs.Imports.{ℕ, ◌-◌, max, ◌∙◌, arith, scaled}
use Rattle.lx_base.proofs.Lanes.{stored_below, stored_at, loaded}
use Rattle.lx_mixer.proofs.mix.mix_block.Goals as goal

pub returns-clause-before : goal.returns-clause-before
returns-clause-before c = λ k less. stored_below c.args.out.now c.under.result c.args.at k less

pub returns-clause-block : goal.returns-clause-block
returns-clause-block c = λ k least less.
    let at = c.args.at in
    let playback = c.args.playback.now in
    let subs = c.args.subs.now in
    let place : ℕ = k - at in
    stored_at c.args.out.now c.under.result _ at k c.requires.out c.under.ensures least less
    ∙ (λ i. scaled (c.greater.ensures.each place (omega arith) i) c.args.master)
    ∙ (λ i. scaled (max (loaded playback at k least less i) (loaded subs at k least less i)) c.args.master)
