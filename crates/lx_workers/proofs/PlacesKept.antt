-- Places, and what stands in them.
use Rattle.lx_workers.proofs.Imports.{◌≡◌, ◌≢◌, inl, inr, ℕ, zero, suc, ◌+◌, ◌-◌, ◌<◌, ◌≤◌, List, [], ◌∷◌}
use Rattle.lx_workers.proofs.Imports.{◌++◌, length, replicate, Some, None, set, slice_get, IsSome, IsSomeAnd, sym, ap, ◌∙◌, subst, arith}
use Rattle.lx_workers.proofs.Imports.{append_assoc, length-append, slice_get_within, same_Some, IsPrefix, SinkFault, Command, Show, EachAt, Tapped}
use Rattle.lx_workers.proofs.Imports.{Served, HasServed, IsFull, IsTaken, IsGiven, OutletIsBack, ToldBySink}
use Rattle.std.specs.declared.option.Option.{Option}
use Rattle.std.proofs.lemmas.Bool.{cases_lt}
use Rattle.lx_work.proofs.Places.{get_last, get_left, get-set_other}

-- each place has a sink
pub full_at : {K : Type 0} (outlets : List (Option K)) → IsFull outlets → (place : ℕ) → place < length outlets
    → IsSomeAnd (slice_get outlets place) IsSome
full_at [] full place lt = absurd (omega arith)
full_at (outlet ∷ outlets) full zero lt = full.0
full_at (outlet ∷ outlets) full (suc place) lt = full_at outlets full.1 place (omega arith)

-- no fault is told yet
pub none_at : (n k : ℕ) (fault : SinkFault) → slice_get (replicate {A = Option SinkFault} n None) k ≡ Some (Some fault) → {P : Type 0} → P
none_at zero k fault is = absurd cc
none_at (suc n) zero fault is = absurd cc
none_at (suc n) (suc k) fault is = none_at n k fault is

pub each_left : {X : Type 0} (P : ℕ → X → Type 0) (all xs : List X) (x : X) → all ≡ xs ++ x ∷ [] → EachAt P all → EachAt P xs
each_left P all xs x e h = λ k y is. h k y (ap (λ l. slice_get l k) e ∙ get_left xs (x ∷ []) k y is)

pub each_last : {X : Type 0} (P : ℕ → X → Type 0) (all xs : List X) (x : X) → all ≡ xs ++ x ∷ [] → EachAt P all → P (length xs) x
each_last P all xs x e h = h (length xs) x (ap (λ l. slice_get l (length xs)) e ∙ get_last xs x)

-- one more of the last
pub prefix_less : {X : Type 0} (all old new : List X) (x : X) → old ≡ new ++ x ∷ [] → IsPrefix old all → IsPrefix new all
prefix_less all old new x e p = (x ∷ p.0, sym (append_assoc new (x ∷ []) p.0) ∙ ap (λ l. l ++ p.0) (sym e) ∙ p.1)

pub at_last : {X : Type 0} (all old new : List X) (x : X) → old ≡ new ++ x ∷ [] → IsPrefix old all → slice_get all (length new) ≡ Some x
at_last all old new x e p = ap (λ l. slice_get l (length new)) (sym p.1)
    ∙ get_left old p.0 (length new) x (ap (λ l. slice_get l (length new)) e ∙ get_last new x)

pub back_more : {X : Type 0} (all : List X) (Q Q' : ℕ → X → Type 0) (n len : ℕ) (lane : X) → length all ≡ n → slice_get all len ≡ Some lane
    → ((k : ℕ) (x : X) → k < n → len < k → Q (n - 1 - k) x → Q' (n - 1 - k) x) → Q' (n - 1 - len) lane
    → ((k : ℕ) (x : X) → slice_get all k ≡ Some x → len + 1 ≤ k → Q (n - 1 - k) x)
    → (k : ℕ) (x : X) → slice_get all k ≡ Some x → len ≤ k → Q' (n - 1 - k) x
back_more all Q Q' n len lane whole here keep new before k x is le = elim (cases_lt len k) [
  | inl lt ↦ keep k x (let w = slice_get_within all k x is in omega (arith, w, whole)) lt (before k x is (omega (arith, lt)))
  | inr most ↦
      let e : len ≡ k = omega (arith, le, most) in
      let same : lane ≡ x = same_Some lane x (sym here ∙ (ap (slice_get all) e ∙ is)) in
      subst (λ (z : _). Q' (n - 1 - k) z) same (subst (λ (j : ℕ). Q' (n - 1 - j) lane) e new)
]

-- what stands elsewhere stays
pub given_on : {K : Type 0} (told : ToldBySink K) (show : Show) (outlets outlets' : List (Option K))
    (results results' : List (Option SinkFault)) (published : List Command) (place at : ℕ) (o : Option K) (f : Option SinkFault)
    (tap : Tapped) (sink : K) (served : Served)
    → outlets' ≡ set outlets at o → results' ≡ set results at f → place ≢ at
    → IsGiven told show outlets results published place tap sink served → IsGiven told show outlets' results' published place tap sink served
given_on told show outlets outlets' results results' published place at o f tap sink served is is' other g = record {
  new = g.new;
  fault = g.fault;
  place_is = ap (λ l. slice_get l place) is ∙ get-set_other outlets at place o other ∙ g.place_is;
  fault_is = ap (λ l. slice_get l place) is' ∙ get-set_other results at place f other ∙ g.fault_is;
  delivered = g.delivered;
}

pub length_snoc : {X : Type 0} (all xs : List X) (x : X) → all ≡ xs ++ x ∷ [] → length all ≡ length xs + 1
length_snoc all xs x e = let n = length-append xs (x ∷ []) in omega (arith, ap length e, n)

-- the sink of a place came out of it, was served and came back
pub is_back : {K : Type 0} (outlet_told : ToldBySink K) (show : Show) (outlets outlets' : List (Option K))
    (results : List (Option SinkFault)) (published : List Command) (place k n m : ℕ) (start : K) (tap tap' : Tapped) (sink sink' : K)
    (served : Served)
    → slice_get outlets place ≡ Some (Some start) → place < n → k ≡ n - 1 - place → m ≡ n → IsTaken outlets n k tap sink
    → HasServed outlet_told show tap tap' sink sink' served → IsGiven outlet_told show outlets' results published (m - 1 - k) tap' sink' served
    → OutletIsBack outlet_told show outlets' results published place start
is_back {K = K} outlet_told show outlets outlets' results published place k n m start tap tap' sink sink' served is within at same t
    h g =
    let here : m - 1 - k ≡ place = omega (arith, within, at, same) in
    let universe : tap.universe ≡ place + 1 = omega (arith, t.universe_is, within, at) in
    let from : tap.universe - 1 ≡ place = omega (arith, universe) in
    let mine : sink ≡ start = same_Some sink start
    (same_Some (Some sink) (Some start) (sym t.place ∙ (ap (slice_get outlets) from ∙ is))) in
    record {
      new = g.new;
      fault = g.fault;
      place_is = ap (slice_get outlets') (sym here) ∙ g.place_is;
      fault_is = ap (slice_get results) (sym here) ∙ g.fault_is;
      delivered = rw (← mine, ← universe) (g.delivered tap sink h);
    }
