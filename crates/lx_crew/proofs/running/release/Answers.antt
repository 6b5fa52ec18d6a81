use Rattle.lx_crew.proofs.Imports.{rules, ◌≡◌, ◌+◌, ◌≤◌, ℕ, zero, suc, List, [], ◌++◌, ◌∷◌, length, map, Some, None, slice_get}
use Rattle.lx_crew.proofs.Imports.{refl, ap, sym, ◌∙◌, length-set, arith, length_push, slice_get_within, view, Operator, View, owned}
use Rattle.lx_crew.proofs.Rules.{merges}
use Rattle.lx_crew.proofs.Works.{each_init, map_snoc, told_more, none_more}
use Rattle.lx_crew.proofs.running.release.Goals as goal

none_past : {A B : Type 0} (xs : List A) (k : ℕ) (x : A) → slice_get xs k ≡ Some x → length xs ≤ k → B
none_past xs k x at after = absurd (let t = slice_get_within xs k x at in omega (arith, t, after))

none_told : {A : Type 0} {B : Type 0} (place : ℕ) (x : A) → slice_get (None ∷ None ∷ None ∷ None ∷ []) place ≡ Some (Some x) → B
none_told zero x at = absurd cc
none_told (suc zero) x at = absurd cc
none_told (suc (suc zero)) x at = absurd cc
none_told (suc (suc (suc zero))) x at = absurd cc
none_told (suc (suc (suc (suc n)))) x at = absurd cc

pub loop-work-init : goal.loop-work-init
loop-work-init g c = record {
  same = (refl, refl, refl);
  kept = (view c.args.pass.now).kept;
  knows = refl;
  lists = refl;
  works = c.requires.works;
  left = λ k work at. at;
  all = refl;
  four = refl;
  count = omega (arith, c.requires.count);
  back = λ k work at after. none_past _ k work at after;
  faults = λ k work at after. none_past _ k work at after;
  others = λ place fault at. none_told place fault at;
}

pub absorb-requires-clause-queue : goal.absorb-requires-clause-queue
absorb-requires-clause-queue g c =
    let i = c.loop-work.invariant in
    let t = each_init _ c.pop.new.self.items c.in-Some.work (rw c.in-Some.ensures.items at i.works) in
    ((search rules), t.1.0)

pub absorb-requires-clause-rule : goal.absorb-requires-clause-rule
absorb-requires-clause-rule g c =
    let i = c.loop-work.invariant in
    let t = each_init _ c.pop.new.self.items c.in-Some.work (rw c.in-Some.ensures.items at i.works) in
    merges _ _ _ _ (ap (λ (v : View). v.pops) i.knows ∙ c.requires.pops) (ap (λ (v : View). v.pushes) i.knows ∙ c.requires.pushes) t.1.1

pub bounds-operators-place : goal.bounds-operators-place
bounds-operators-place g c =
    let i = c.loop-work.invariant in
    let l = ap length c.in-Some.ensures.items ∙ length_push c.pop.new.self.items c.in-Some.work in
    omega (arith, l, i.count, c.len-place.ensures, c.pop.new.self.ok.0)

pub bounds-faults-place : goal.bounds-faults-place
bounds-faults-place g c =
    let i = c.loop-work.invariant in
    let l = ap length c.in-Some.ensures.items ∙ length_push c.pop.new.self.items c.in-Some.work in
    omega (arith, l, i.count, i.four, i.all, c.requires.few, c.len-place.ensures, c.pop.new.self.ok.0)

pub loop-work-preserved : goal.loop-work-preserved
loop-work-preserved g c =
    let i = c.loop-work.invariant in
    let items = c.pop.new.self.items in
    let work = c.in-Some.work in
    let t = each_init _ items work (rw c.in-Some.ensures.items at i.works) in
    let here = each_init _ items work (rw c.in-Some.ensures.items at i.left) in
    let l : length c.loop-work.works.items ≡ length items + 1 = ap length c.in-Some.ensures.items ∙ length_push items work in
    let at : c.len-place.result ≡ length items = omega (arith, c.len-place.ensures, c.pop.new.self.ok.0) in
    record {
      same = search rules;
      kept = owned work ∷ i.kept;
      knows = rw i.knows at c.absorb.ensures.rule;
      lists = sym (map_snoc owned items work i.kept) ∙
          (ap (λ (ws : List _). map owned ws ++ i.kept) (sym c.in-Some.ensures.items) ∙ i.lists);
      works = t.0;
      left = here.0;
      all = length-set c.loop-work.operators _ _ ∙ i.all;
      four = length-set c.loop-work.faults _ _ ∙ i.four;
      count = omega (arith, l, i.count, length-set c.loop-work.operators c.len-place.result c.put_back.new.place);
      back = told_more (λ (w : Operator _). Some w.source) c.args.works.items c.loop-work.operators (length items) _ _ work
          c.put_back.new.place c.put_back.ensures here.1 (omega (arith, l, i.count)) l at i.back;
      faults = told_more (λ (w : Operator _). w.fault) c.args.works.items c.loop-work.faults (length items) _ _ work work.fault refl
          here.1 (omega (arith, l, i.count, i.four, i.all, c.requires.few)) l at i.faults;
      others = none_more c.loop-work.faults (length c.args.operators.now) _ work.fault (omega (arith, at, l, i.count, i.all)) i.others;
    }

pub returns-clause-kept : goal.returns-clause-kept
returns-clause-kept g c =
    let i = c.loop-work.invariant in
    let none : c.loop-work.works.items ≡ [] = search rules in
    i.knows ∙ ap (λ kept. record (view c.args.pass.now) { kept = kept }) (ap (λ (ws : List _). map owned ws ++ i.kept) (sym none) ∙ i.lists)

pub returns-clause-back : goal.returns-clause-back
returns-clause-back g c = λ k work at.
    let none : c.loop-work.works.items ≡ [] = search rules in
    let zero : length c.loop-work.works.items ≡ 0 = ap length none in
    c.loop-work.invariant.back k work at (omega (arith, zero))

pub returns-clause-faults : goal.returns-clause-faults
returns-clause-faults g c = λ k work at.
    let none : c.loop-work.works.items ≡ [] = search rules in
    let zero : length c.loop-work.works.items ≡ 0 = ap length none in
    c.loop-work.invariant.faults k work at (omega (arith, zero))

pub returns-clause-others : goal.returns-clause-others
returns-clause-others g c = c.loop-work.invariant.others
