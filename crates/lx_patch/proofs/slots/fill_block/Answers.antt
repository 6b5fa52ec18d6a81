use Rattle.lx_patch.proofs.Imports.{ℕ, ◌-◌, ◌+◌, ◌≡◌, get_or, ◌∙◌, ap, arith, get_or-put_chunk_above, scaled, stored_below, stored_at, loaded}
use Rattle.lx_patch.proofs.slots.fill_block.Goals as goal

pub returns-clause-before : goal.returns-clause-before
returns-clause-before c = λ k less. stored_below c.args.slots.now c.scale_lanes.result c.args.at k less

pub returns-clause-block : goal.returns-clause-block
returns-clause-block c = λ k least less.
    let at = c.args.at in
    let places = c.args.places.now in
    let outs = c.args.outs.now in
    let place : ℕ = k - at in
    let back : at + place ≡ k = omega arith in
    let output : get_or c.gather-outs.result place 0 ≡ get_or outs (get_or places k 0) 0 =
    c.gather-outs.ensures.each place (omega arith) ∙ ap (λ n. get_or outs (get_or places n 0) 0) back in
    stored_at c.args.slots.now c.scale_lanes.result _ at k c.requires.slots c.scale_lanes.ensures least less
    ∙ (λ i. scaled (output i) (loaded c.args.levels.now at k least less i))

pub returns-clause-after : goal.returns-clause-after
returns-clause-after c = λ k past. get_or-put_chunk_above c.args.at c.args.slots.now c.scale_lanes.result k 0
    (omega (arith, c.scale_lanes.ensures.long))
