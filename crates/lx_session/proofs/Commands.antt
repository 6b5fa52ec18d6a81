-- What the console's answer to a command comes to.
use Rattle.lx_session.proofs.Imports.{◌≡◌, ◌≢◌, ◌∙◌, ℕ, Bool, true, false, Option, None, Some, Result, Ok, Err, OnErr, inl, refl, sym, ap, subst}
use Rattle.lx_session.proofs.Imports.{arith, result_err, Command, Refusal, Memory, Desk, Kept, StandsFor, Answers, Obeys, Attempted, HasStood}
use Rattle.lx_session.proofs.Imports.{◌⊎◌, inr, IfErr, OnOk, IsOk, IsOkAnd, step, may_lack_memory}
use Rattle.lx_io.specs.Causes.{HasCauseOf}
use Rattle.lx_spec.specs.FirstRefusal.{◌>>=◌}

answered_at : (d : Desk) (c : Command) (r : Result (Unit {0}) Refusal) (before after : Kept) → Answers d c r after → StandsFor d before
    → OnErr r (after ≡ before) → Attempted true d c (result_err r) after
answered_at d c (Ok u) before after a stands same = a.ok
answered_at d c (Err refusal) before after a stands same = (subst (StandsFor d) (sym same) stands, a.err)

pub answered : (admitted : Bool) (d : Desk) (c : Command) (r : Result (Unit {0}) Refusal) (o : Option Refusal) (before after : Kept)
    → admitted ≡ true → Answers d c r after → StandsFor d before → OnErr r (after ≡ before) → o ≡ result_err r
    → Attempted admitted d c o after
answered admitted d c r o before after all a stands same is =
    subst (λ b. Attempted b d c o after) (sym all)
    (subst (λ v. Attempted true d c v after) (sym is) (answered_at d c r before after a stands same))

-- a command that wasn't admitted leaves the console as it was
pub unadmitted : (admitted : Bool) (d : Desk) (c : Command) (before : Kept) → admitted ≡ false → StandsFor d before
    → Attempted admitted d c (Some Memory) before
unadmitted admitted d c before none stands = subst (λ b. Attempted b d c (Some Memory) before) (sym none) (stands, refl)

-- a refusal of the desk's own is one of those that a console may answer
pub obeyed : (d : Desk) (c : Command) (r : Result (Unit {0}) Refusal) (after : Kept) → Obeys d c r after → Answers d c r after
obeyed d c (Ok u) after o = record { ok = o.ok; err = tt }
obeyed d c (Err refusal) after o = record { ok = tt; err = inl o.err }

-- where all were admitted, none wasn't
pub not_admitted : {P : Type 0} (admitted : Bool) → admitted ≡ false → admitted ≡ true → P
not_admitted admitted none every = let no : false ≡ true = sym none ∙ every in absurd cc

-- an answer that isn't Memory is no refusal for it
pub never_wants : (r : Result (Unit {0}) Refusal) (o : Option Refusal) → o ≡ result_err r → r ≢ Err Memory → o ≢ Some Memory
never_wants (Ok u) o is other = λ want. let no : None ≡ Some Memory = sym is ∙ want in cc
never_wants (Err refusal) o is other = λ want.
    let same : Some refusal ≡ Some Memory = sym is ∙ want in
    let own : refusal ≡ Memory = cc in other (ap Err own)

-- nor is one where the heap refused nothing
not_memory : (before now : ℕ) (r : Result (Unit {0}) Refusal) → HasCauseOf Memory before now r → HasStood before now → r ≢ Err Memory
not_memory before now (Ok u) cause stood = λ want. cc
not_memory before now (Err refusal) cause stood = λ want.
    let own : refusal ≡ Memory = cc in
    let rose = cause.failed own in absurd (omega (arith, rose, stood))

pub wants_none : {before now : ℕ} {r : Result (Unit {0}) Refusal} {o : Option Refusal} → o ≡ result_err r → HasCauseOf Memory before now r
    → HasStood before now → o ≢ Some Memory
wants_none {before} {now} {r} {o} is cause stood = never_wants r o is (not_memory before now r cause stood)

-- A step of a state with a desk in it is the desk's own: it is refused where the desk's is.
module _ {T : Type 0} (next : Desk → T) where
  own_ok : (r : Result Desk Refusal) (P : T → Type 0) (Q : Desk → Type 0) → ((d : Desk) → P (next d) → Q d)
      → IsOkAnd (r >>= (λ d. Ok (next d))) P → IsOkAnd r Q
  own_ok (Ok d) P Q then p = then d p
  own_ok (Err refusal) P Q then p = absurd p

  own_err : (r : Result Desk Refusal) (refusal : Refusal) → r >>= (λ d. Ok (next d)) ≡ Err refusal → r ≡ Err refusal
  own_err (Ok d) refusal is = cc
  own_err (Err own) refusal is = let same : own ≡ refusal = cc in ap Err same

  own_accepts : (r : Result Desk Refusal) → IsOk (r >>= (λ d. Ok (next d))) → IsOk r
  own_accepts (Ok d) ok = ok
  own_accepts (Err own) ok = ok

  -- A command of such a state that was answered was attempted on its desk.
  pub own_attempted : {A : Type 0} (d : Desk) (c : Command) (answer : Result A Refusal) (before now : Kept) (P : T → Type 0)
      (Wants : Refusal → Type 0) → StandsFor d before → OnErr answer (now ≡ before) → ((e : Desk) → P (next e) → StandsFor e now)
      → ((refusal : Refusal) → Wants refusal
      → (may_lack_memory c ≡ true) × (refusal ≡ Memory) × IsOk (step d c >>= (λ e. Ok (next e))))
      → OnOk answer (IsOkAnd (step d c >>= (λ e. Ok (next e))) P)
      → IfErr answer (λ refusal. (step d c >>= (λ e. Ok (next e)) ≡ Err refusal) ⊎ Wants refusal)
      → Attempted true d c (result_err answer) now
  own_attempted d c (Ok x) before now P Wants stands same stood wants ok err = own_ok (step d c) P (λ e. StandsFor e now) stood ok
  own_attempted d c (Err refusal) before now P Wants stands same stood wants ok err = (
    subst (StandsFor d) (sym same) stands,
    elim err [
      | inl own ↦ inl (own_err (step d c) refusal own)
      | inr want ↦
          let w = wants refusal want in inr (record { takes_some = w.0; memory = w.1; accepted = own_accepts (step d c) w.2 })
    ],
  )
