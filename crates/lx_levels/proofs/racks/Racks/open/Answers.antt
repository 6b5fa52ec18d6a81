use Rattle.lx_levels.proofs.Imports.{List, ap, subst, sym, ◌∙◌, arith, rules, get_or-replicate}
use Rattle.lx_levels.specs.Columns.{FootReaches, foot_at}
use Rattle.lx_levels.specs.declared.racks.Foot.{Foot}
use Rattle.lx_levels.proofs.Columns.{opened_empty, length-stacks_of}
use Rattle.lx_levels.proofs.racks.Racks.open.Goals as goal

pub invariant_of-result : goal.invariant_of-result
invariant_of-result g c =
    let n = c.args.channels in
    let none : Foot = record { bottom = 0; count = 0 } in
    record {
      few = c.requires;
      of_feet = c.in_ok-feet.ensures.long;
      each = λ k less. subst (FootReaches n c.in_ok-fades.fades.items) (sym (ap (λ (fs : List Foot). foot_at fs k) c.in_ok-feet.ensures.items
          ∙ get_or-replicate {A = Foot} n k none none less)) (record { most = omega arith; reach = omega arith });
      begin = search rules;
      room_is = search rules;
    }

pub returns-clause-reach : goal.returns-clause-reach
returns-clause-reach g c = length-stacks_of c.args.channels _ _

pub returns-clause-empty : goal.returns-clause-empty
returns-clause-empty g c = opened_empty c.args.channels _ _ c.in_ok-feet.ensures.items
