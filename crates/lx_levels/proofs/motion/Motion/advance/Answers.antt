use Rattle.lx_levels.proofs.Imports.{◌≡◌, ℕ, ◌<◌, ◌≤◌, Bool, true, false, length, get_or, inl, inr, ◌∙◌, subst, sym, ap, arith, refl, ◌||◌, cases_eq}
use Rattle.lx_levels.proofs.Imports.{get_or_read, Place}
use Rattle.lx_levels.proofs.UnderWay.{advanced_next, written_other}
use Rattle.lx_levels.proofs.motion.Motion.advance.Goals as goal

both_false : (a b : Bool) → (a || b) ≡ false → (a ≡ false) × (b ≡ false)
both_false true b h = absurd cc
both_false false b h = (refl, h)

pub loop-k-preserved : goal.loop-k-preserved
loop-k-preserved c =
    let k : ℕ = c.loop-k.k in
    let old = c.loop-k.invariant in
    let is = c.bring-changed.ensures.others in
    let new = c.bring-changed.new.self in
    let advanced = advanced_next is old.advanced c.bring-changed.ensures.told in
    let within : k < length new.holds.items =
    omega (arith, c.loop-k-test.true, c.len-k-end.ensures, c.args.self.now.holds.ok, c.requires.reaches, advanced.reaches) in
    let here : c.index.result.now ≡ get_or new.holds.items k 0 =
    get_or_read new.holds.items k c.index.result.now within c.index.ensures 0 in
    record {
      advanced = advanced;
      most = omega (arith, old.most, c.min-due.ensures);
      held = λ i below. elim (cases_eq i k) [
        | inl same ↦ subst (λ n. c.min-due.result ≤ get_or new.holds.items n 0) (sym same) (omega (arith, here, c.min-due.ensures))
        | inr other ↦
            let kept = ap (λ (p : Place). p.hold) (written_other is other) in
            omega (arith, old.held i (omega (arith, other)), kept, c.min-due.ensures)
      ];
      unchanged = λ still i in_stacks.
          let none = both_false c.loop-k.changed c.bring-changed.result still in
          elim (cases_eq i k) [
            | inl same ↦ subst (λ n. get_or new.levels.items n 0 ≡ get_or c.args.self.now.levels.items n 0) (sym same)
                (c.bring-changed.ensures.unchanged none.1 ∙ old.unchanged none.0 k (omega (arith, same, in_stacks)))
            | inr other ↦ sym (ap (λ (p : Place). p.level) (written_other is other)) ∙ old.unchanged none.0 i in_stacks
          ];
    }

pub returns-clause-right : goal.returns-clause-right
returns-clause-right c =
    let old = c.loop-k.invariant in
    let all : length c.args.stacks.now ≤ c.loop-k.k =
    omega (arith, c.loop-k-test.false, c.len-k-end.ensures, c.args.self.now.holds.ok, c.requires.reaches.of_holds) in
    record {
      reaches = assumption (old.advanced.reaches);
      begun = c.requires.moment;
      each = λ k within.
          let done : k < c.loop-k.k = omega (arith, within, all) in record { told = old.advanced.done k done; due = old.held k done };
    }
