-- What the engine came to, with one more entry.
use Rattle.lx_crew.proofs.Imports.{◌≡◌, ◌⊎◌, inl, inr, ⊎_elim, ℕ, ◌≤◌, Bool, true, Option, Some, List, [], ◌∷◌, ◌++◌, slice_get}
use Rattle.lx_crew.proofs.Imports.{refl, sym, subst, ◌∙◌, arith, SinkFault, Rose, Desk, Kept, Tally, Message, of_place, is_last, has_last}
use Rattle.lx_crew.proofs.Imports.{HasAnswered, Marked, OutputCause, ToldBySink}
use Rattle.lx_io.specs.declared.sink.SinkFault.TheVariants.{Failed, Memory}
use Rattle.lx_crew.proofs.Lists.{last_on, last_here}

pub ended_on : (before after : List Bool) (popped : List Message) (e : Message) → Marked e before after
    → ((k : ℕ) → slice_get before k ≡ Some true → has_last (of_place k popped) ≡ true)
    → (k : ℕ) → slice_get after k ≡ Some true → has_last (of_place k (popped ++ e ∷ [])) ≡ true
ended_on before after popped e m h k is =
    ⊎_elim (λ b. last_on k popped e (h k b)) (λ (b : (e.place ≡ k) × (is_last e.sent ≡ true)). last_here k popped e b.0 b.1) (m k is)

pub cause_none : {K : Type 0} (told : ToldBySink K) (sink : K) (output : Option SinkFault) → OutputCause told sink sink output output
cause_none told sink output = record {
  later = omega arith;
  wants_later = omega arith;
  failed = λ is. inl is;
  memory = λ is. inl is;
  kept = λ none. (none, refl, refl);
}

-- the fault was there before, or its count rose in one of two steps
either_rose : (m n o : ℕ) (P Q : Type 0) → m ≤ n → n ≤ o → (Q → P ⊎ Rose m n) → Q ⊎ Rose n o → P ⊎ Rose m o
either_rose m n o P Q one two first second =
    ⊎_elim (λ q. ⊎_elim (λ p. inl p) (λ (rose : Rose m n). inr (omega (arith, rose, two))) (first q))
    (λ (rose : Rose n o). inr (omega (arith, one, rose))) second

-- one step, and then another
pub cause_then : {K : Type 0} (told : ToldBySink K) (a b c : K) (x y z : Option SinkFault) → OutputCause told a b x y
    → OutputCause told b c y z → OutputCause told a c x z
cause_then told a b c x y z p q =
    let later = p.later in
    let then = q.later in
    let wants_later = p.wants_later in
    let wants_then = q.wants_later in
    record {
      later = omega (arith, later, then);
      wants_later = omega (arith, wants_later, wants_then);
      failed = λ is. either_rose (told.faults a) (told.faults b) (told.faults c) (x ≡ Some Failed) (y ≡ Some Failed) later then p.failed (q.failed is);
      memory = λ is. either_rose (told.wants a) (told.wants b) (told.wants c) (x ≡ Some Memory) (y ≡ Some Memory) wants_later wants_then p.memory
          (q.memory is);
      kept = λ none.
          let last = q.kept none in
          let first = p.kept last.0 in
          (first.0, last.1 ∙ first.1, last.2 ∙ first.2);
    }

-- nothing was answered, and nothing was written
pub answered_same : {K : Type 0} (told : ToldBySink K) (sink sink' : K) (before now : ℕ) (d : Desk) (popped : List Message) (start : K)
    (console console' : Kept) (tally tally' : Tally) (output output' : Option SinkFault) → sink' ≡ sink → console' ≡ console
    → tally' ≡ tally → output' ≡ output → HasAnswered before now told d popped start sink console tally output
    → HasAnswered before now told d popped start sink' console' tally' output'
answered_same {K} told sink sink' before now d popped start console console' tally tally' output output' s c t o so_far =
    subst (λ (x : K × Kept × Tally × Option SinkFault). HasAnswered before now told d popped start x.0 x.1 x.2 x.3)
    (λ i. (sym s i, sym c i, sym t i, sym o i)) so_far
