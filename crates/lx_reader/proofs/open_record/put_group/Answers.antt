use Rattle.lx_reader.proofs.Imports.{◌∙◌, subst, sym, GROUPS, ValidSet, placed}
use Rattle.lx_reader.proofs.OpenCues.{filled_set_valid, set_written}
use Rattle.lx_reader.proofs.open_record.put_group.Goals as goal

pub put_group-requires : goal.put_group-requires
put_group-requires g c = subst (ValidSet GROUPS c.args.show.now.channels)
    (sym (set_written c.args.moves.now c.group.view_is c.in_ok-put_in_set.ensures.list)) (filled_set_valid c.requires)

pub returns-clause-show : goal.returns-clause-show
returns-clause-show g c = let show = c.args.show.now in c.put_group.ensures ∙ (λ j. record show {
  groups = placed (λ x. x.number) (set_written c.args.moves.now c.group.view_is c.in_ok-put_in_set.ensures.list j) show.groups;
})
