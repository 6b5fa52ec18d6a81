-- Each step keeps the rule.
use Rattle.lx_crew.proofs.Imports.{◌≡◌, ◌≢◌, ℕ, zero, suc, ◌+◌, ◌<◌, ◌≤◌, ◌==◌, true, false, true≢false, cond, List, []}
use Rattle.lx_crew.proofs.Imports.{◌∷◌, ◌++◌, length, set, sym, refl, ap, ◌∙◌, subst, inl, inr, ⊎_elim, ◌⊎◌, append_assoc, eq-eqb}
use Rattle.lx_crew.proofs.Imports.{ne_eqb, arith, ℕ_discrete, dec_le, Message, View, of_place, Numbered, KeepsOrder, FitsPass, FitsOperator, FitsEngine}
use Rattle.lx_crew.proofs.Imports.{AddsEntry, Takes, Learned, engine_view, operator_view, spent_view}
use mathlib.Core.Option.{some, some-ne-none, some-injective}
use lib.ListN.{get_elem?}
use Rattle.crossbeam_queue.specs.Fifo.{Pushes, Pops, Forks, Merges, Learns}
use Rattle.crossbeam_queue.proofs.Lists.{at_set}
use Rattle.lx_spec.proofs.Lists.{each}
use Rattle.lx_crew.proofs.Lists.{of_mine, of_other, numbered_snoc}

abbrev All : (ℕ → View → Type 0) → List View → Type 0
All F views = (pass : ℕ) (v : View) → get_elem? views pass ≡ some v → F pass v

all_set : (F : ℕ → View → Type 0) (views : List View) (pass : ℕ) (w : View) → F pass w
    → ((j : ℕ) (u : View) → j ≢ pass → get_elem? views j ≡ some u → F j u) → All F (set views pass w)
all_set F views pass w mine others j u e = ⊎_elim
    (λ (x : (j ≡ pass) × (w ≡ u)). subst (λ (y : ℕ × View). F y.0 y.1) (λ i. (sym x.0 i, x.1 i)) mine)
    (λ (x : (j ≢ pass) × (get_elem? views j ≡ some u)). others j u x.0 x.1) (at_set views pass j w u e)

-- what stands in a list with one more: it stood there, or it is the new one at the end
at_new : (l : List View) (a b : View) (j : ℕ) → get_elem? (l ++ a ∷ []) j ≡ some b → (get_elem? l j ≡ some b) ⊎ ((j ≡ length l) × (a ≡ b))
at_new [] a b zero e = inr (refl, some-injective a b e)
at_new [] a b (suc j) e = absurd (some-ne-none b (sym e))
at_new (x ∷ xs) a b zero e = inl e
at_new (x ∷ xs) a b (suc j) e = ⊎_elim (λ h. inl h) (λ (h : (j ≡ length xs) × (a ≡ b)). inr (ap suc h.0, h.1)) (at_new xs a b j e)

never : {A : Type 0} → false ≡ true → A
never e = absurd (true≢false (sym e))

first_fits : FitsPass 0 (λ k. 0) [] [] 0 (engine_view 0 [] [])
first_fits = record {
  operator = λ e. never e;
  engine = λ e. record { reads = refl; got = refl; later = λ k h. (refl, refl); lists = tt };
}

pub begins : KeepsOrder [] (engine_view 0 [] [] ∷ [])
begins = record {
  reader = 0;
  seat = λ k. 0;
  popped = [];
  log = [];
  in_order = refl;
  numbered = λ k. tt;
  each = λ j u e. ⊎_elim (λ none. absurd (some-ne-none u (sym none)))
      (λ (is : (j ≡ 0) × (engine_view 0 [] [] ≡ u)). subst (λ (y : ℕ × View). FitsPass 0 (λ k. 0) [] [] y.0 y.1) (λ i. (sym is.0 i, is.1 i))
      first_fits) (at_new [] (engine_view 0 [] []) u j e);
}

-- an operator that isn't e's keeps its list
kept_by : (reader : ℕ) (seat : ℕ → ℕ) (popped log : List Message) (pass : ℕ) (e : Message) (j : ℕ) (u : View) → seat e.place ≡ pass + 1
    → FitsEngine reader seat popped log j u → FitsEngine reader seat popped (log ++ e ∷ []) j u
kept_by reader seat popped log pass e j u mine f =
    let free : (k : ℕ) → seat k ≡ 0 → e.place ≢ k = λ k none is. absurd
    (let t : seat k ≡ pass + 1 = subst (λ (n : ℕ). seat n ≡ pass + 1) is mine in omega (arith, t, none)) in record {
      reads = f.reads;
      got = f.got;
      later = λ k h. ((f.later k h).0, of_other k log e (free k (f.later k h).0) ∙ (f.later k h).1);
      lists = each _ _ u.kept (λ p h. (h.0, h.1, h.2 ∙ sym (of_other p.0 log e (free p.0 h.1)))) f.lists;
    }

numbered_on : (log : List Message) (e : Message) (k : ℕ) → Numbered 1 (of_place k log) → (e.place ≡ k → e.number ≡ 1 + length (of_place k log))
    → Dec (e.place ≡ k) → Numbered 1 (of_place k (log ++ e ∷ []))
numbered_on log e k h next (yes is) = subst (λ (es : List Message). Numbered 1 es) (sym (of_mine k log e is))
    (numbered_snoc 1 (of_place k log) e h (next is))
numbered_on log e k h next (no not) = subst (λ (es : List Message). Numbered 1 es) (sym (of_other k log e not)) h

pub sends : (n pass : ℕ) (v : View) (e : Message) → v.pushes ≡ true → e.place ≡ v.place → e.number ≡ length v.pushed + 1
    → Pushes KeepsOrder n pass v e (AddsEntry v e)
sends n pass v e may own next items views room h at =
    let w : View = record v { pushed = v.pushed ++ e ∷ [] } in
    let mine = (h.each pass v at).operator may in
    let sits : h.seat e.place ≡ pass + 1 = ap h.seat own ∙ mine.0 in
    let log : List Message = h.log ++ e ∷ [] in (
      w,
      record {
        reader = h.reader;
        seat = h.seat;
        popped = h.popped;
        log = log;
        in_order = ap (λ (l : List Message). l ++ e ∷ []) h.in_order ∙ append_assoc h.popped items (e ∷ []);
        numbered = λ k. numbered_on h.log e k (h.numbered k)
            (λ is. let t : v.pushed ≡ of_place k h.log = mine.1 ∙ ap (λ (i : ℕ). of_place i h.log) (sym own ∙ is) in
            let l : length v.pushed ≡ length (of_place k h.log) = ap length t in omega (arith, next, l)) (ℕ_discrete e.place k);
        each = all_set (FitsPass h.reader h.seat h.popped log) views pass w
            (record {
              operator = λ p. (mine.0, ap (λ (l : List Message). l ++ e ∷ []) mine.1 ∙ sym (of_mine v.place h.log e own));
              engine = λ p. let f = (h.each pass v at).engine p in kept_by h.reader h.seat h.popped h.log pass e pass w sits
                  (record { reads = f.reads; got = f.got; later = f.later; lists = f.lists });
            })
            (λ j u other is. record {
              operator = λ p. let f = (h.each j u is).operator p in (
                f.0,
                f.1 ∙ sym (of_other u.place h.log e
                    (λ same. other (let t : h.seat u.place ≡ pass + 1 = subst (λ (k : ℕ). h.seat k ≡ pass + 1) same sits in omega
                    (arith, t, f.0)))),
              );
              engine = λ p. kept_by h.reader h.seat h.popped h.log pass e j u sits ((h.each j u is).engine p);
            });
      },
      refl,
    )

pub takes : (pass : ℕ) (v : View) → v.pops ≡ true → Pops KeepsOrder pass v (Takes v)
takes pass v may x items views h at =
    let w : View = record v { popped = v.popped ++ x ∷ [] } in
    let mine = (h.each pass v at).engine may in
    let popped : List Message = h.popped ++ x ∷ [] in (
      w,
      record {
        reader = h.reader;
        seat = h.seat;
        popped = popped;
        log = h.log;
        in_order = h.in_order ∙ sym (append_assoc h.popped (x ∷ []) items);
        numbered = h.numbered;
        each = all_set (FitsPass h.reader h.seat popped h.log) views pass w
            (record {
              operator = λ p. (h.each pass v at).operator p;
              engine = λ p. record {
                reads = mine.reads;
                got = ap (λ (l : List Message). l ++ x ∷ []) mine.got;
                later = mine.later;
                lists = mine.lists;
              };
            })
            (λ j u other is. record {
              operator = (h.each j u is).operator;
              engine = λ p. absurd (other (((h.each j u is).engine p).reads ∙ sym mine.reads));
            });
      },
      refl,
    )

-- seat with n at k
reseat : (ℕ → ℕ) → ℕ → ℕ → ℕ → ℕ
reseat seat k n i = cond (i == k) n (seat i)

reseat_here : (seat : ℕ → ℕ) (k n : ℕ) → reseat seat k n k ≡ n
unfolding reseat
reseat_here seat k n = rw (eq-eqb k k refl) refl

reseat_else : (seat : ℕ → ℕ) (k n i : ℕ) → i ≢ k → reseat seat k n i ≡ seat i
unfolding reseat
reseat_else seat k n i other = rw (ne_eqb i k other) refl

still_none : (seat : ℕ → ℕ) (k i : ℕ) → seat i ≡ 0 → Dec (i ≡ k) → reseat seat k 0 i ≡ 0
still_none seat k i none (yes is) = subst (λ (j : ℕ). reseat seat k 0 j ≡ 0) (sym is) (reseat_here seat k 0)
still_none seat k i none (no other) = reseat_else seat k 0 i other ∙ none

made_before : (seat : ℕ → ℕ) (made k pass : ℕ) → seat k ≡ pass + 1 → (made ≤ k → seat k ≡ 0) → Dec (made ≤ k) → k < made
made_before seat made k pass sits none (yes after) = absurd (let t = none after in omega (arith, t, sits))
made_before seat made k pass sits none (no before) = omega (arith, before)

pub forks : (pass : ℕ) (v : View) → v.pops ≡ true → v.pushes ≡ false
    → Forks KeepsOrder pass v (record v { made = v.made + 1 }) (operator_view v.made [])
forks pass v may none items views h at =
    let l : View = record v { made = v.made + 1 } in
    let r : View = operator_view v.made [] in
    let vs : List View = set views pass l in
    let new : ℕ = length vs in
    let mine = (h.each pass v at).engine may in
    let free = mine.later v.made (omega arith) in
    let seat : ℕ → ℕ = reseat h.seat v.made (new + 1) in
    let away : (k : ℕ) → k ≢ v.made → seat k ≡ h.seat k = λ k other. reseat_else h.seat v.made (new + 1) k other in
    let Old : ℕ → View → Type 0 = λ j u. (u.pushes ≡ true → FitsOperator seat h.log j u) ×
    (u.pops ≡ true → FitsEngine h.reader seat h.popped h.log j u) in
    let old : All Old vs = all_set Old views pass l (
      (λ p. never (sym none ∙ p)),
      λ p. record {
        reads = mine.reads;
        got = mine.got;
        later = λ k after. let k' : v.made ≤ k = omega (arith, after) in let other : k ≢ v.made = λ is. omega (arith, after, is) in
            (away k other ∙ (mine.later k k').0, (mine.later k k').1);
        lists = each _ _ v.kept (λ p q. (omega (arith, q.0), away p.0 (λ is. omega (arith, q.0, is)) ∙ q.1, q.2)) mine.lists;
      },
    )
    (λ j u other is. (
      (λ p. let f = (h.each j u is).operator p in
          (away u.place (λ same. let t : h.seat u.place ≡ 0 = ap h.seat same ∙ free.0 in omega (arith, t, f.0)) ∙ f.0, f.1)),
      λ p. absurd (other (((h.each j u is).engine p).reads ∙ sym mine.reads)),
    )) in record {
      reader = h.reader;
      seat = seat;
      popped = h.popped;
      log = h.log;
      in_order = h.in_order;
      numbered = h.numbered;
      each = λ j u e. ⊎_elim (λ x. record { operator = (old j u x).0; engine = (old j u x).1 })
          (λ (is : (j ≡ new) × (r ≡ u)). record {
            operator = λ p. subst (λ (y : View). FitsOperator seat h.log j y) is.1
                (reseat_here h.seat v.made (new + 1) ∙ ap (λ (i : ℕ). i + 1) (sym is.0), sym free.1);
            engine = λ p. never (ap (λ (y : View). y.pops) is.1 ∙ p);
          }) (at_new vs r u j e);
    }

pub merges : (pass : ℕ) (v : View) (other : ℕ) (u : View) → v.pops ≡ true → v.pushes ≡ false → u.pushes ≡ true
    → Merges KeepsOrder pass v other u (record v { kept = (u.place, u.pushed) ∷ v.kept }) spent_view
merges pass v other u may none sent items views h at apart at' =
    let both : View = record v { kept = (u.place, u.pushed) ∷ v.kept } in
    let mine = (h.each pass v at).engine may in
    let vs : List View = set views pass both in
    let was : get_elem? views other ≡ some u = ⊎_elim (λ x. absurd (apart x.0)) (λ x. x.1) (at_set views pass other both u at') in
    let theirs = (h.each other u was).operator sent in
    let seat : ℕ → ℕ = reseat h.seat u.place 0 in
    let away : (k : ℕ) → k ≢ u.place → seat k ≡ h.seat k = λ k x. reseat_else h.seat u.place 0 k x in
    let gone : (k : ℕ) → h.seat k ≡ 0 → seat k ≡ 0 = λ k x. still_none h.seat u.place k x (ℕ_discrete k u.place) in
    let made : u.place < v.made = made_before h.seat v.made u.place other theirs.0 (λ x. (mine.later u.place x).0)
    (dec_le v.made u.place) in
    let Now : ℕ → View → Type 0 = λ j y. j ≢ other → FitsPass h.reader seat h.popped h.log j y in
    let now : All Now vs = all_set Now views pass both
    (λ _. record {
      operator = λ p. never (sym none ∙ p);
      engine = λ p. record {
        reads = mine.reads;
        got = mine.got;
        later = λ k after. (gone k (mine.later k after).0, (mine.later k after).1);
        lists = ((made, reseat_here h.seat u.place 0, theirs.1), each _ _ v.kept (λ p q. (q.0, gone p.0 q.1, q.2)) mine.lists);
      };
    })
    (λ j y different is away_from. record {
      operator = λ p. let f = (h.each j y is).operator p in (
        away y.place (λ same. away_from
            (let t : h.seat u.place ≡ j + 1 = subst (λ (k : ℕ). h.seat k ≡ j + 1) same f.0 in omega (arith, t, theirs.0))) ∙ f.0,
        f.1,
      );
      engine = λ p. absurd (different (((h.each j y is).engine p).reads ∙ sym mine.reads));
    }) in record {
      reader = h.reader;
      seat = seat;
      popped = h.popped;
      log = h.log;
      in_order = h.in_order;
      numbered = h.numbered;
      each = all_set (FitsPass h.reader seat h.popped h.log) vs other spent_view (record { operator = λ p. never p; engine = λ p. never p })
          (λ j y different is. now j y is different);
    }

pub totals : (pass : ℕ) (v : View) → v.pops ≡ true → Learns KeepsOrder pass v (Learned v)
totals pass v may items views h at =
    let mine = (h.each pass v at).engine may in
    let all : h.log ≡ v.popped ++ items = h.in_order ∙ ap (λ (l : List Message). l ++ items) (sym mine.got) in
    record {
      lists = each _ _ v.kept (λ p q. q.2 ∙ ap (λ (l : List Message). of_place p.0 l) all) mine.lists;
      others = λ k h. ap (λ (l : List Message). of_place k l) (sym all) ∙ (mine.later k h).1;
    }
