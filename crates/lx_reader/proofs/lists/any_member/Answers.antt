use Rattle.lx_reader.proofs.Imports.{◌∷◌, ap, ◌∙◌, sym}
use Rattle.lx_reader.proofs.Pairs.{member_first}
use Rattle.lx_reader.proofs.lists.any_member.Goals as goal

pub returns-in-Ok-read_level-clause-list : goal.returns-in-Ok-read_level-clause-list
returns-in-Ok-read_level-clause-list c =
    let first = c.in-Some.ensures in
    let second = c.in-Some-next.ensures in
    member_first c.args.i _ _ (record { chan = c.in-Ok.chan; level = c.in-Ok-read_level.level }) (record {
      chan_token = c.in-Some.first.now;
      level_token = c.in-Some-next.second.now;
      chan = sym c.in-Ok.ensures;
      level = sym c.in-Ok-read_level.ensures;
      first = first.steps ∙ ap (λ v. c.in-Some.first.now ∷ v) second.steps;
    })
