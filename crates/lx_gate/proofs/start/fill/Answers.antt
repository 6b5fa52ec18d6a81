use Rattle.lx_gate.proofs.Imports.{◌∷◌, [], length, length-append, arith, sym, ap, ◌∙◌, IsNewTap}
use Rattle.lx_base.proofs.Places.{each_snoc}
use Rattle.lx_gate.proofs.FirstVersion.{first_frame, new_tap}
use Rattle.lx_gate.proofs.start.fill.Goals as goal

pub new-requires-clause-opening : goal.new-requires-clause-opening
new-requires-clause-opening g c = first_frame _ _ c.requires.valid

pub loop-place-preserved : goal.loop-place-preserved
loop-place-preserved g c = record {
  len = omega (arith, c.push_reserved.ensures.len, c.loop-place.invariant.len);
  count = omega (
    arith,
    ap length c.push_reserved.ensures.items,
    length-append c.loop-place.taps.items (c.new.result ∷ []),
    c.loop-place.invariant.count,
  );
  room = omega (arith, c.push_reserved.ensures.capacity, c.loop-place.invariant.room);
  each = rw c.push_reserved.ensures.items (each_snoc IsNewTap c.loop-place.taps.items c.new.result c.loop-place.place
      c.loop-place.invariant.each (sym c.loop-place.invariant.count)
      (c.new.ensures ∙ new_tap _ _ _ _ _ (c.new-port.ensures.seen.0 ∙ (c.again.ensures ∙ c.requires.none))
      (c.new-port.ensures.seen.1 ∙ (c.again-in-loop-place.ensures ∙ c.requires.none)) c.new-port.ensures.counts.0
      c.new-port.ensures.counts.1));
}
