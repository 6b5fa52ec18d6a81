use Rattle.lx_workers.proofs.Imports.{rules, ◌≡◌, ◌≢◌, inl, inr, ◌+◌, ◌-◌, ◌<◌, length, vec_len, length-set, refl, sym, ap, ◌∙◌}
use Rattle.lx_workers.proofs.Imports.{arith, set, slice_get, slice_get_within, prefix_self, IsGiven, OUTLETS}
use Rattle.lx_workers.proofs.PlacesKept.{length_snoc, prefix_less, at_last, back_more, given_on, none_at}
use Rattle.lx_work.proofs.Places.{get-set_cases, get-set_same}
use Rattle.lx_workers.proofs.playing.give_back.Goals as goal

pub loop-lane-init : goal.loop-lane-init
loop-lane-init g c =
    let items : vec_len c.args.lanes ≡ length c.args.lanes.items = search rules in
    record {
      count = refl;
      few = omega (arith, c.requires.count);
      lanes_len = items;
      same = refl;
      outlets = refl;
      others = λ p fault is. none_at OUTLETS p fault is;
      lanes = prefix_self c.args.lanes.items;
      back = λ k x is le. absurd (let w = slice_get_within c.args.lanes.items k x is in omega (arith, w, le, items));
    }

pub loop-lane-preserved : goal.loop-lane-preserved
loop-lane-preserved g c =
    let h = c.loop-lane.invariant in
    let n : vec_len c.pop.new.self + 1 ≡ vec_len c.loop-lane.lanes = c.in-Some.ensures.cases in
    let items = c.in-Some.ensures.items in
    let lanes_len : vec_len c.pop.new.self ≡ length c.pop.new.self.items = omega (arith, n, length_snoc _ _ _ items, h.lanes_len) in
    let at : c.len.result ≡ vec_len c.pop.new.self = c.len.ensures in
    let whole : length c.args.lanes.items ≡ length c.args.outlets.now =
    (let e : vec_len c.args.lanes ≡ length c.args.lanes.items = search rules in sym e ∙ c.requires.count) in
    let place = length c.args.outlets.now - 1 - c.len.result in
    let within : place < length c.args.outlets.now = omega (arith, n, h.few, at) in
    let new : IsGiven g.K.Sink g.G.Origin.show c.put_sink.new.outlets
    (set c.loop-lane.faults place c.finish.new.self.served.fault) c.args.gate.now.published
    (length c.args.outlets.now - 1 - vec_len c.pop.new.self) c.in-Some.lane.tap c.in-Some.lane.sink c.in-Some.lane.served = record {
      new = c.finish.new.self.sink;
      fault = c.finish.new.self.served.fault;
      place_is = ap (λ j. slice_get c.put_sink.new.outlets (length c.args.outlets.now - 1 - j)) (sym at)
          ∙ (ap (λ l. slice_get l place) c.put_sink.ensures.after
          ∙ get-set_same c.loop-lane.outlets place _ (omega (arith, within, h.same)));
      fault_is = ap (λ j. slice_get (set c.loop-lane.faults place c.finish.new.self.served.fault) (length c.args.outlets.now - 1 - j))
          (sym at) ∙ get-set_same c.loop-lane.faults place _ (omega (arith, within, h.outlets, c.requires.most));
      delivered = λ start from served. rw c.note.ensures.list at (c.finish.ensures.delivered start from served);
    } in
    record {
      count = refl;
      few = omega (arith, n, h.few);
      lanes_len = lanes_len;
      same = ap length c.put_sink.ensures.after ∙ length-set c.loop-lane.outlets _ _ ∙ h.same;
      outlets = length-set c.loop-lane.faults _ _ ∙ h.outlets;
      others = λ p fault is. elim (get-set_cases c.loop-lane.faults place p _ _ is)
          [ inl e ↦ omega (arith, e, within) | inr e ↦ h.others p fault e ];
      lanes = prefix_less _ _ _ _ items h.lanes;
      back = back_more c.args.lanes.items (λ p x. IsGiven g.K.Sink g.G.Origin.show c.loop-lane.outlets
          c.loop-lane.faults c.args.gate.now.published p x.tap x.sink x.served) (λ p x. IsGiven g.K.Sink g.G.Origin.show c.put_sink.new.outlets
          (set c.loop-lane.faults place c.finish.new.self.served.fault) c.args.gate.now.published p x.tap x.sink x.served)
          (length c.args.outlets.now) (vec_len c.pop.new.self) c.in-Some.lane whole
          (ap (λ j. slice_get c.args.lanes.items j) lanes_len ∙ at_last _ _ _ _ items h.lanes)
          (λ k x lt above before. given_on _ _ _ _ _ _ _ _ _ _ _ _ _ _ c.put_sink.ensures.after refl
          (let o : length c.args.outlets.now - 1 - k ≢ place =
          λ (e : length c.args.outlets.now - 1 - k ≡ place). absurd (omega (arith, e, lt, above, at)) in o) before)
          new
          (λ k x is le. h.back k x is (omega (arith, le, n)));
    }

pub returns-clause-back : goal.returns-clause-back
returns-clause-back g c = λ k x is. c.loop-lane.invariant.back k x is
    (let z : vec_len c.loop-lane.lanes ≡ 0 = c.in_default.ensures.cases.0 in omega (arith, z))
