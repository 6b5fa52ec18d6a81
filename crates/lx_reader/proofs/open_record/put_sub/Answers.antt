use Rattle.lx_reader.proofs.Imports.{◌∙◌, subst, sym, SUBS, ValidSet, placed}
use Rattle.lx_reader.proofs.OpenCues.{filled_set_valid, set_written}
use Rattle.lx_reader.proofs.open_record.put_sub.Goals as goal

pub put_sub-requires : goal.put_sub-requires
put_sub-requires g c = subst (ValidSet SUBS c.args.show.now.channels)
    (sym (set_written c.args.moves.now c.sub.view_is c.in_ok-put_in_set.ensures.list)) (filled_set_valid c.requires)

pub returns-clause-show : goal.returns-clause-show
returns-clause-show g c = let show = c.args.show.now in c.put_sub.ensures ∙ (λ j. record show {
  subs = placed (λ x. x.number) (set_written c.args.moves.now c.sub.view_is c.in_ok-put_in_set.ensures.list j) show.subs;
})
