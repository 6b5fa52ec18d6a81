-- Lists of works and of places.
use Rattle.lx_crew.proofs.Imports.{true≢false, ◌==◌, true, false, ◌≡◌, ℕ, zero, suc, ◌+◌, ◌<◌, ◌≤◌, List, [], ◌∷◌}
use Rattle.lx_crew.proofs.Imports.{◌++◌, length, map, set, get_or, slice_get, Option, Some, None, IsSome, sym, refl, ap, ◌∙◌, subst, inl, inr}
use Rattle.lx_crew.proofs.Imports.{take, drop, append_assoc, map-append, append-nil, arith, AllByRecursion, AllZip, All, ℕ_discrete}
use Rattle.lx_crew.proofs.Imports.{slice_get_read, slice_get-get_or, AllZip-long, Message, View, Operator, of_place, is_last, has_last}
use Rattle.lx_crew.proofs.Imports.{HaveLines, engine_view, operator_view, HasSentLines, EachAt}
use Rattle.lx_crew.proofs.Imports.{HasRunOperator, Hired, HasSentNothing, Works, Retired, owned, filter-append, view, Pass, IsSamePass, ToldBySource}
use Rattle.std.proofs.lemmas.List.{take_at}
use Rattle.lx_work.proofs.Places.{get_last, get_left, get-set_cases, get-set_other, get-set_same, zip_at}
use Rattle.lx_crew.proofs.Lists.{none_both, text_not_last}

pub each_zip : {A B : Type 0} (R : A → B → Type 0) (P : ℕ → A → Type 0) (Q : ℕ → B → Type 0) (xs : List A) (ys : List B) → AllZip R xs ys
    → EachAt P xs → ((k : ℕ) (x : A) (y : B) → P k x → R x y → Q k y) → EachAt Q ys
each_zip R P Q xs ys z h f k y is = let x = zip_at R xs ys k y z is in f k x.0 y (h k x.0 x.1) x.2

pub at_place : {A : Type 0} (l : List A) (i : ℕ) (a : A) → i < length l → a ≡ get_or l i a → slice_get l i ≡ Some a
at_place l i a lt is = slice_get_read l (length l) i a refl lt is

pub some_there : {S : Type 0} (ops ops' : List (Option S)) (i : ℕ) (x y : Option S) → i < length ops → x ≡ get_or ops i x
    → slice_get ops i ≡ slice_get ops' i → EachAt (λ k p. IsSome p) ops' → y ≡ get_or ops i x → IsSome y
some_there ops ops' i x y lt is rest all e = subst (λ (z : Option _). IsSome z) (is ∙ sym e) (all i x (sym rest ∙ at_place ops i x lt is))

pub not_none : {A : Type 0} (o : Option A) → IsSome o → o ≡ None → ⊥
not_none o h e = absurd (true≢false (sym (subst (λ (p : Option _). IsSome p) e h)))

pub source_is : {S : Type 0} (ops ops' : List (Option S)) (i : ℕ) (x : Option S) (s : S) → i < length ops → x ≡ get_or ops i x
    → slice_get ops i ≡ slice_get ops' i → get_or ops i x ≡ Some s → slice_get ops' i ≡ Some (Some s)
source_is ops ops' i x s lt is rest e = sym rest ∙ (at_place ops i x lt is ∙ ap (λ (z : Option _). Some z) (is ∙ e))

pub all_at : {A : Type 0} (P : A → Type 0) (Q : ℕ → A → Type 0) (xs : List A) → EachAt Q xs → ((k : ℕ) (x : A) → Q k x → P x) → All P xs
all_at P Q xs h f k d lt = f k (get_or xs k d) (h k (get_or xs k d) (slice_get-get_or xs k d lt))

-- what holds of each of a mapped list, and more, holds at each place
pub map_at : {A B : Type 0} (P : B → Type 0) (f : A → B) (xs : List A) (ys : List B) → AllByRecursion P (map f xs ++ ys) → (k : ℕ) (x : A)
    → slice_get xs k ≡ Some x → P (f x)
map_at P f [] ys h k x is = absurd cc
map_at P f (z ∷ xs) ys h zero x is = let same : z ≡ x = cc in subst (λ w. P (f w)) same h.0
map_at P f (z ∷ xs) ys h (suc k) x is = map_at P f xs ys h.1 k x is

pub each_init : {A : Type 0} (P : ℕ → A → Type 0) (xs : List A) (x : A) → EachAt P (xs ++ x ∷ []) → EachAt P xs × P (length xs) x
each_init P xs x h = ((λ k y is. h k y (get_left xs (x ∷ []) k y is)), h (length xs) x (get_last xs x))

pub map_snoc : {A B : Type 0} (f : A → B) (xs : List A) (x : A) (ys : List B) → map f (xs ++ x ∷ []) ++ ys ≡ map f xs ++ f x ∷ ys
map_snoc f xs x ys = rw (map-append f xs (x ∷ [])) (append_assoc (map f xs) (f x ∷ []) ys)

-- one more of what is told of each of a list, from its end on
pub told_more : {A B : Type 0} (f : A → B) (all : List A) (told : List B) (n m i : ℕ) (x : A) (new : B) → new ≡ f x
    → slice_get all n ≡ Some x → n < length told → m ≡ n + 1 → i ≡ n → EachAt (λ k y. m ≤ k → slice_get told k ≡ Some (f y)) all
    → EachAt (λ k y. n ≤ k → slice_get (set told i new) k ≡ Some (f y)) all
told_more f all told n m i x new is at within more here h k y its after = elim (ℕ_discrete k n) [
  | yes same ↦
      let e : slice_get all k ≡ Some x = ap (slice_get all) same ∙ at in
      let one : x ≡ y = cc in
      ap (slice_get (set told i new)) (same ∙ sym here) ∙ get-set_same told i new (omega (arith, within, here)) ∙ ap Some (is ∙ ap f one)
  | no other ↦ get-set_other told i k new (λ e. other (e ∙ here)) ∙ h k y its (omega (arith, more, after, other))
]

-- a fault is told of no place that is past a number
pub none_more : {A : Type 0} (told : List (Option A)) (n i : ℕ) (new : Option A) → i < n
    → ((k : ℕ) (x : A) → slice_get told k ≡ Some (Some x) → k < n) → (k : ℕ) (x : A) → slice_get (set told i new) k ≡ Some (Some x) → k < n
none_more told n i new within h k x is = elim (get-set_cases told i k new (Some x) is) [
  | inl here ↦ omega (arith, within, here)
  | inr there ↦ h k x there
]

pub retired : {S : Type 0} (told : ToldBySource S) (Its : Pass Message View → Type 0)
    (carry : (p q : Pass Message View) → IsSamePass p q → Its p → Its q)
    (places : List (Option S)) (xs ys : List (Operator S)) → AllZip (HasRunOperator told) xs ys → EachAt (Hired Its places) xs → EachAt
    (Retired told Its places) ys
retired told Its carry places xs ys z h = each_zip (HasRunOperator told) (Hired Its places) (Retired told Its places) xs ys z h
    (λ k x y p r. record {
      its = carry x.pass y.pass r.1.0 p.its;
      start = x.source;
      source = p.source;
      sent = subst (λ (n : ℕ). HasSentLines told n x.source y.source (view y.pass) y.fault) p.place r.1.1;
    })

pub retired_works : {S : Type 0} (told : ToldBySource S) (Its : Pass Message View → Type 0) (places : List (Option S)) (ys : List (Operator S))
    → EachAt (Retired told Its places) ys → EachAt (Works Its) ys
retired_works told Its places ys h k y is = let r = h k y is in (r.its, ap (λ (v : View). v.pushes) r.sent.view)

-- behind the last entry of an operator nothing comes
whole : (place n : ℕ) (es : List Message) (ls : List (List ℕ)) (last : Message) (xs ys : List Message) → HaveLines place n es ls
    → xs ++ ys ≡ es ++ last ∷ [] → has_last xs ≡ true → ys ≡ []
whole place n es ls last [] ys h e is = absurd (true≢false (sym is))
whole place n [] ls last (x ∷ xs) ys h e is = (none_both xs ys cc).1
whole place n (k ∷ es) [] last (x ∷ xs) ys h e is = absurd h
whole place n (k ∷ es) (l ∷ ls) last (x ∷ xs) ys h e is =
    let same : x ≡ k = cc in
    let rest : xs ++ ys ≡ es ++ last ∷ [] = cc in
    let none : is_last x.sent ≡ false = ap (λ (m : Message). is_last m.sent) same ∙ text_not_last k.sent l h.1.1.0 in
    whole place (n + 1) es ls last xs ys h.1.1.1 rest (rw none at is)

-- an operator's entries among what was popped are all that it pushed
pub complete : {S : Type 0} (told : ToldBySource S) (Its : Pass Message View → Type 0) (places : List (Option S))
    (ys : List (Operator S)) (popped items : List Message) → AllByRecursion (λ (p : ℕ × List Message). p.1 ≡ of_place p.0 (popped ++ items))
    (map owned ys ++ []) → (k : ℕ) (y : Operator S) → slice_get ys k ≡ Some y → (r : Retired told Its places k y)
    → has_last (of_place k popped) ≡ true → of_place k popped ≡ r.sent.entries ++ r.sent.last ∷ []
complete told Its places ys popped items kept k y is r ended =
    let s = r.sent in
    let own : (view y.pass).pushed ≡ of_place (view y.pass).place (popped ++ items) =
    map_at (λ (p : ℕ × List Message). p.1 ≡ of_place p.0 (popped ++ items)) owned ys [] kept k y is in
    let mine : s.entries ++ s.last ∷ [] ≡ of_place k (popped ++ items) =
    sym (ap (λ (v : View). v.pushed) s.view) ∙ (own ∙ ap (λ (v : View). of_place v.place (popped ++ items)) s.view) in
    let both : of_place k popped ++ of_place k items ≡ s.entries ++ s.last ∷ [] =
    sym (filter-append (λ (x : Message). x.place == k) popped items) ∙ sym mine in
    let none : of_place k items ≡ [] = whole k 1 s.entries s.lines s.last (of_place k popped) (of_place k items) s.have both ended in
    sym (append-nil (of_place k popped)) ∙ (ap (λ (l : List Message). of_place k popped ++ l) (sym none) ∙ both)

pub ready_all : {S : Type 0} (Its : Pass Message View → Type 0) (places : List (Option S)) (xs : List (Operator S))
    → EachAt (Hired Its places) xs
    → All (λ (w : Operator S). HasSentNothing w) xs
ready_all Its places xs h = all_at (λ (w : Operator _). HasSentNothing w) (Hired Its places) xs h
    (λ k w t. (t.own_queue, t.fresh ∙ ap (λ (n : ℕ). operator_view n []) (sym t.place)))

pub works_back : {A : Type 0} (R : A → A → Type 0) (xs ys : List A) (n : ℕ) → n ≡ length xs → AllZip R xs ys
    → take n (ys ++ drop (length ys) xs) ≡ ys
works_back R xs ys n is z = take_at ys (drop (length ys) xs) n (AllZip-long R xs ys z ∙ sym is)

pub after_release : {S : Type 0} (v e : View) (n : ℕ) (popped : List Message) (ws ys : List (Operator S)) → ws ≡ ys
    → e ≡ engine_view n popped [] → v ≡ record e { kept = map owned ws ++ e.kept } → v ≡ engine_view n popped (map owned ys ++ [])
after_release v e n popped ws ys same h is = rw (same, h) at is

pub carries : (q : _) (p p' : Pass Message View) → IsSamePass p p' → (p.table_id ≡ q) × (p.me.1 ≡ []) → (p'.table_id ≡ q) × (p'.me.1 ≡ [])
carries q p p' same h = (same.0 ∙ h.0, same.2 ∙ h.1)
