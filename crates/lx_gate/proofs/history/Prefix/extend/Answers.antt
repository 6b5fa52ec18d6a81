use Rattle.lx_gate.proofs.Imports.{◌≡◌, ◌+◌, ◌-◌, sym, ◌∙◌, ap, subst, length, drop, List, arith, length-drop, Command, flat}
use Rattle.lx_gate.proofs.Imports.{IsLonger}
use Rattle.lx_gate.proofs.BatchAddition.{adds_moves, adds_longer}
use Rattle.lx_gate.proofs.history.Prefix.extend.Goals as goal

pub compare_exchange-found-requires : goal.compare_exchange-found-requires
compare_exchange-found-requires g c =
    let h = c.args.history.now.head_is in
    let offer = c.plain-offer.ensures in
    let pen = c.no_pen-pen.ensures in
    let again = c.again-seen.ensures in
    let len : length (flat c.again-seen.result.log) ≡ c.self.inside.count = ap (λ s. length (flat s.log)) again
    ∙ sym c.self.invariant.0 in
    let more : c.self.inside.count + (c.len.result - c.args.known)
    ≡ c.self.inside.count + length (drop c.args.known c.args.unsent.now) = rw length-drop (omega (arith, c.len.ensures)) in (
      ap (λ w. w.tracked) h,
      ap (λ s. s.book) again ∙ (c.self.invariant.1 ∙ sym (ap (λ w. w.book) h)),
      pen.0 ∙ (ap (λ s. s.book) again ∙ (c.self.invariant.1 ∙ sym (ap (λ w. w.book) h))),
      offer.0,
      rw (ap (λ w. w.key) h, pen.1, offer.1, offer.3)
          (adds_moves c.again-seen.result.log (drop c.args.known c.args.unsent.now) c.self.inside.count
          (c.self.inside.count + (c.len.result - c.args.known)) len more),
    )

pub returns-then-found-count : goal.returns-then-found-count
returns-then-found-count g c =
    let again = c.again-seen.ensures in
    let len : length (flat c.again-seen.result.log) ≡ c.self.inside.count = ap (λ s. length (flat s.log)) again ∙ sym c.self.invariant.0 in
    let found = c.compare_exchange-found in
    rw (c.drop.view_is ∙ c.of_parts.ensures, sym (ap (λ s. flat s.log) again ∙ c.self.view_is))
    (adds_longer c.again-seen.result.log found.new.seen.log c.plain-offer.result.ask c.self.inside.count found.result c.if-found-count.true len
    found.ensures.6 found.ensures.7)
