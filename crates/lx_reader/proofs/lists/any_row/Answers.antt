use Rattle.lx_reader.proofs.Imports.{◌∷◌, ap, ◌∙◌, sym}
use Rattle.lx_reader.proofs.Pairs.{row_first}
use Rattle.lx_reader.proofs.lists.any_row.Goals as goal

pub returns-in-Ok-read_level-clause-list : goal.returns-in-Ok-read_level-clause-list
returns-in-Ok-read_level-clause-list c =
    let first = c.in-Some.ensures in
    let second = c.in-Some-next.ensures in
    let third = c.in-Some-next-2.ensures in
    row_first c.args.i _ _ (record { dimmer = c.in-Ok-read_dimmer.dimmer; chan = c.in-Ok.chan; level = c.in-Ok-read_level.level }) (record {
      chan_token = c.in-Some.first.now;
      dimmer_token = c.in-Some-next.second.now;
      level_token = c.in-Some-next-2.third.now;
      chan = sym c.in-Ok.ensures;
      dimmer = sym c.in-Ok-read_dimmer.ensures;
      level = sym c.in-Ok-read_level.ensures;
      first = first.steps ∙ ap (λ v. c.in-Some.first.now ∷ v) (second.steps ∙ ap (λ v. c.in-Some-next.second.now ∷ v) third.steps);
    })
