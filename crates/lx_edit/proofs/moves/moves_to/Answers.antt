use Rattle.lx_edit.proofs.Imports.{◌∙◌, ◌++◌, ◌∷◌, [], ap, arith, sym, List, map, take, map_more, Member, Move, part_for}
use Rattle.lx_edit.proofs.moves.moves_to.Goals as goal

pub loop-member-preserved : goal.loop-member-preserved
loop-member-preserved g c =
    let i = c.loop-member.member-index in
    let members = c.args.members.now in
    let at : Member → Move = λ m. record { chan = m.chan; part = part_for c.args.part c.args.cue.now m.chan; level = m.level } in
    record {
      items = c.push_reserved.ensures.items
          ∙ ap (λ (xs : List Move). xs ++ (c.move_to.result ∷ [])) c.loop-member.invariant.items
          ∙ ap (λ (m : Move). map at (take i members) ++ (m ∷ [])) (c.move_to.ensures ∙ ap at c.member-item.is)
          ∙ sym (map_more at members i c.member-item.result c.loop-member-test.true);
      len = omega (arith, c.push_reserved.ensures.len, c.loop-member.invariant.len);
      room = c.push_reserved.ensures.capacity ∙ c.loop-member.invariant.room;
    }
