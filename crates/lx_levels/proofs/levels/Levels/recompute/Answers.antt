use Rattle.lx_levels.proofs.Imports.{◌≡◌, ◌+◌, ◌-◌, ◌∙◌, ap, arith, length, sym, length-reverse, level, refl, KeptLevels}
use Rattle.std.specs.List.{length_refill}
use Rattle.lx_levels.proofs.Written.{written}
use Rattle.lx_levels.proofs.UnderWay.{right_but, elsewhere}
use Rattle.lx_levels.proofs.levels.Levels.recompute.Goals as goal

acts_are : (c : goal.After-deref) → c.ground_of-oldest.new.acts_of ≡ c.deref.result.now
acts_are c = sym (c.deref.ensures.value ∙ written c.self.inside.acts.len c.ground_of-oldest.new.acts_of c.self.inside.acts.items
    (omega (arith, c.ground_of-oldest.auto.acts_of, c.deref_mut-2.ensures.len)))

pub overflow_cast-k : goal.overflow_cast-k
overflow_cast-k c = omega (arith, c.get.ensures.most)

pub overflow_sub-k : goal.overflow_sub-k
overflow_sub-k c = c.get.ensures.least

pub ground_of-oldest-requires-clause-hints : goal.ground_of-oldest-requires-clause-hints
ground_of-oldest-requires-clause-hints c = ap length c.deref_mut.ensures.value ∙ c.self.invariant.room

pub ground_of-oldest-requires-clause-acts : goal.ground_of-oldest-requires-clause-acts
ground_of-oldest-requires-clause-acts c = ap length c.deref_mut-2.ensures.value ∙ c.self.invariant.acts_room

pub replay-requires-clause-place : goal.replay-requires-clause-place
replay-requires-clause-place c =
    omega (arith, c.get.ensures.value, c.get.ensures.least, c.requires.chan, ap (λ (v : KeptLevels). length v.stacks) c.self.view_is)

pub replay-requires-clause-acts : goal.replay-requires-clause-acts
replay-requires-clause-acts c = omega (arith, ap length (acts_are c), ap length c.deref_mut-2.ensures.value, c.self.invariant.acts_room)

pub replay-requires-clause-valid : goal.replay-requires-clause-valid
replay-requires-clause-valid c = rw (← acts_are c) c.ground_of-oldest.ensures.valid

pub refresh-requires : goal.refresh-requires
refresh-requires c = right_but _ c.self.invariant.right
    (omega (arith, c.get.ensures.value, c.get.ensures.least, c.requires.chan, ap (λ (v : KeptLevels). length v.stacks) c.self.view_is))
    c.replay.ensures.others

pub invariant_of-self : goal.invariant_of-self
invariant_of-self c =
    let hints = length_refill c.self.inside.hints.len c.self.inside.hints.items c.ground_of-oldest.new.hints (omega arith) in
    let acts = length_refill c.self.inside.acts.len c.self.inside.acts.items c.ground_of-oldest.new.acts_of (omega arith) in
    record { right = c.refresh.ensures; room = omega (arith, hints); acts_room = omega (arith, acts) }

pub returns-clause-here : goal.returns-clause-here
returns-clause-here c =
    let p = c.args.playback.now in
    let acts = c.deref.ensures.value ∙ written c.self.inside.acts.len c.ground_of-oldest.new.acts_of c.self.inside.acts.items
    (omega (arith, c.ground_of-oldest.auto.acts_of, c.deref_mut-2.ensures.len)) in
    let gives = (rw acts at c.replay.ensures.level) c.args.show.now c.base.result c.args.chan c.self.inside.moment
    c.ground_of-oldest.ensures.ground in
    let moment : c.self.inside.moment ≡ p.moment = ap (λ (v : KeptLevels). v.moment) c.self.view_is ∙ c.requires.moment in
    let next : c.args.chan ≡ c.args.chan - 1 + 1 = omega (arith, c.get.ensures.value, c.get.ensures.least) in
    rw (← c.get.ensures.value) (record {
      later = λ x from. gives x (omega (arith, moment, from)) ∙ rw (c.live-live.ensures.live, c.base.ensures, c.get.ensures.value, ← next) refl;
      few = omega (arith, c.replay.ensures.few, ap length c.live-live.ensures.live, length-reverse c.live-live.result.now);
    })

pub returns-clause-others : goal.returns-clause-others
returns-clause-others c = rw (← c.self.view_is, ← c.get.ensures.value) (elsewhere _ c.replay.ensures.others)
