use Rattle.lx_crew.proofs.Imports.{rules, ◌+◌, ◌<◌, ℕ, length, refl, ap, sym, ◌∙◌, length-set, arith, length_push, IsPassOf}
use Rattle.lx_crew.proofs.Imports.{View, Hired}
use Rattle.lx_crew.proofs.Rules.{forks}
use Rattle.lx_base.proofs.Places.{each_snoc}
use Rattle.lx_work.proofs.Places.{get-set_other}
use Rattle.lx_crew.proofs.Works.{some_there, not_none, source_is}
use Rattle.lx_crew.proofs.running.hire.Goals as goal

pub unreachable-requires : goal.unreachable-requires
unreachable-requires g c =
    let i = c.loop-place.invariant in
    let x = c.index-operators-place in
    let t = some_there c.loop-place.operators c.args.operators.now c.loop-place.place x.result c.take.result
    (omega (arith, c.loop-place-test.true, i.all)) x.is (i.rest c.loop-place.place (omega arith)) c.requires.all c.take.ensures.value in
    not_none c.take.result t c.in_default.is

pub another-theirs-requires-clause-rule : goal.another-theirs-requires-clause-rule
another-theirs-requires-clause-rule g c = forks _ _ (ap (λ (v : View). v.pops) c.loop-place.invariant.knows)
    (ap (λ (v : View). v.pushes) c.loop-place.invariant.knows)

pub loop-place-preserved : goal.loop-place-preserved
loop-place-preserved g c =
    let i = c.loop-place.invariant in
    let x = c.index-operators-place in
    let k = c.loop-place.place in
    let inside : k < length c.loop-place.operators = omega (arith, c.loop-place-test.true, i.all) in record {
      same = search rules;
      knows = rw i.knows at c.another-theirs.ensures.rule.0;
      len = omega (arith, c.push_reserved.ensures.len, i.len);
      count = ap length c.push_reserved.ensures.items ∙ (length_push c.loop-place.works.items _ ∙ ap (λ (n : ℕ). n + 1) i.count);
      room = omega (arith, c.push_reserved.ensures.capacity, i.room);
      all = length-set c.loop-place.operators k _ ∙ i.all;
      each = rw c.push_reserved.ensures.items (each_snoc (Hired (IsPassOf c.args.queue.now) c.args.operators.now) c.loop-place.works.items _ k i.each (sym i.count) (record {
        its = c.another-theirs.ensures.queue.1;
        own_queue = c.another-theirs.ensures.queue.1;
        fresh = rw i.knows at c.another-theirs.ensures.rule.1;
        place = refl;
        source = source_is c.loop-place.operators c.args.operators.now k x.result c.in-Some.source inside x.is (i.rest k (omega arith))
            (sym c.take.ensures.value ∙ c.in-Some.is);
      }));
      rest = λ j after. get-set_other c.loop-place.operators k j _ (λ e. omega (arith, after, e)) ∙ i.rest j (omega (arith, after));
    }
