use Rattle.std.proofs.Common.{List, map, arith, ap, sym, subst, ◌∙◌}
use Rattle.lx_spec.specs.declared.Member.{Member}
use Rattle.lx_spec.specs.EditedShow.{in_proportion}
use Rattle.lx_spec.specs.Show.{Group, ValidMembers}
use Rattle.lx_groups.proofs.Proportion.{in_proportion-valid}
use Rattle.lx_groups.proofs.group.members.Goals as goal

pub returns-clause-valid : goal.returns-clause-valid
returns-clause-valid c =
    let valid = c.in-Some.ensures.valid in
    subst (λ (ms : List Member). ValidMembers c.args.show.now.channels (map (in_proportion c.args.level) ms))
    (sym (c.as_slice.ensures.entries ∙ ap (λ (g : Group). g.members) c.group-in-Some.view_is))
    (in_proportion-valid c.args.show.now.channels c.args.level c.in-Some.group.now.members (omega arith) valid.members)
