use Rattle.lx_edit.proofs.Imports.{arith, rules, ◌≡◌, ◌+◌, sym, subst, true, ℕ, w64, bit_at-zero, has_chan, trailing_zeros}
use Rattle.lx_edit.proofs.ChanBits.{has_chan-clear, IsNext, lowest, rest_of}
use Rattle.lx_edit.proofs.chan_set.ChanSet.next_above.Goals as goal
use Rattle.lx_edit.proofs.chan_set.ChanSet.next_above.Goals.{Then-rest-ne0}

next : (c : Then-rest-ne0)
    → IsNext c.args.self.now c.loop-place.place (c.loop-place.place + trailing_zeros w64 (rest_of c.args.self.now c.loop-place.place) + 1)
next c = lowest c.args.self.now c.loop-place.place (omega (arith, c.loop-place-test.true, c.requires.last)) (search rules) c.if-rest-ne0.true

pub at-c-requires : goal.at-c-requires
at-c-requires c = record { place = omega (arith, (next c).most) }

pub returns-then-get-last-clause-none : goal.returns-then-get-last-clause-none
returns-then-get-last-clause-none c = λ _ x.
    grind (arith, c.loop-place.invariant.passed x, (next (goal.at.returns-then-get-last-clause-none c).Then-rest-ne0).first x)

pub returns-then-rest-ne0 : goal.returns-then-rest-ne0
returns-then-rest-ne0 c = let n = next (goal.at.returns-then-rest-ne0 c).Then-rest-ne0 in record {
  found = (omega arith, omega arith, subst (λ (x : ℕ). has_chan c.args.self.now x ≡ true) (sym c.at-c.ensures.value) n.has);
  first = λ x. grind (arith, c.loop-place.invariant.passed x, n.first x);
  none = search rules;
}

pub loop-place-preserved : goal.loop-place-preserved
loop-place-preserved c = record {
  start = omega (arith, c.loop-place.invariant.start);
  passed = λ x. grind (arith, c.loop-place.invariant.passed x, bit_at-zero, c.if-rest-ne0.false, has_chan-clear c.args.self.now c.loop-place.place x);
}
