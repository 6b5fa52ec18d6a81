use Rattle.lx_edit.proofs.Imports.{◌≡◌, length, map, take, vec_capacity, part_for}
use Rattle.lx_edit.proofs.moves.moves_to.Given as goal

abbrev pub invariant-loop-member : goal.invariant-loop-member
invariant-loop-member g l = record {
  items : l.moves.items
      ≡ map (λ m. record { chan = m.chan; part = part_for l.part l.cue m.chan; level = m.level }) (take l.member-index l.members);
  len : length l.moves.items ≡ l.member-index;
  room : vec_capacity l.moves ≡ length l.members;
}
