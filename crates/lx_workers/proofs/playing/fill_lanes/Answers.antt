use Rattle.lx_workers.proofs.Imports.{◌≡◌, ◌+◌, ◌-◌, slice_get, None, length, vec_len, length-set, sym, ap, ◌∙◌, arith, Tapped}
use Rattle.lx_base.proofs.Places.{each_snoc}
use Rattle.lx_workers.proofs.PlacesKept.{length_snoc, each_left, each_last}
use Rattle.lx_work.proofs.Places.{get-set_other}
use Rattle.lx_workers.proofs.playing.fill_lanes.Goals as goal

pub loop-tap-preserved : goal.loop-tap-preserved
loop-tap-preserved g c =
    let h = c.loop-tap.invariant in
    let n : vec_len c.pop.new.self + 1 ≡ vec_len c.loop-tap.taps = c.in-Some.ensures.cases in
    let items = c.in-Some.ensures.items in
    let taps_len : vec_len c.pop.new.self ≡ length c.pop.new.self.items = omega (arith, n, length_snoc _ _ _ items, h.taps_len) in
    let last : c.in-Some.tap.universe ≡ length c.pop.new.self.items + 1 =
    ap (λ (t : Tapped). t.universe) (each_last _ _ _ _ items h.taps) in
    let at : c.len.result ≡ vec_len c.pop.new.self = c.len.ensures in
    record {
      count = omega (arith, h.count, n, c.push_reserved.ensures.len);
      lanes_len = omega (arith, c.push_reserved.ensures.len, length_snoc _ _ _ c.push_reserved.ensures.items, h.lanes_len);
      taps_len = taps_len;
      room = omega (arith, c.push_reserved.ensures.capacity, h.room);
      same = ap length c.take_sink-sink.ensures.after ∙ length-set c.loop-tap.outlets c.len.result None ∙ h.same;
      taps = each_left _ _ _ _ items h.taps;
      lanes = rw c.push_reserved.ensures.items
          (each_snoc _ c.loop-tap.lanes.items _ (vec_len c.loop-tap.lanes) h.lanes h.lanes_len (record {
            universe_is = omega (arith, last, taps_len, n, h.count);
            low = omega (arith, last);
            place = (ap (λ j. slice_get c.args.outlets.now j)
                (let e : c.in-Some.tap.universe - 1 ≡ c.len.result = omega (arith, last, taps_len, at) in e)
                ∙ (sym (h.left c.len.result (omega (arith, at, n))) ∙ c.take_sink-sink.ensures.sink));
          }));
      left = λ j lt. ap (λ l. slice_get l j) c.take_sink-sink.ensures.after
          ∙ (get-set_other c.loop-tap.outlets c.len.result j None (λ e. absurd (omega (arith, e, lt, at)))
          ∙ h.left j (omega (arith, lt, n)));
    }
