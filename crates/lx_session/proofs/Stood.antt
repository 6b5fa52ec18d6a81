-- A count of refusals that stands at the end stood all along.
use Rattle.lx_session.proofs.Imports.{◌≡◌, ◌≤◌, ℕ, Bool, true, false, Option, None, Some, IfSome, List, refl, arith}
use Rattle.lx_session.proofs.Imports.{HasStood, IsAmple, MayFailUnless, MayTake, spared, Answering, IsLawful}

pub stood_since : (a b c : ℕ) → a ≤ b → HasStood a c → HasStood b c
stood_since a b c later stood = omega (arith, later, stood)

-- the same of memory that was ample, where all were admitted only if all were so far
pub ample_since : {all : Bool} {a b c : ℕ} → a ≤ b → IsAmple all a c → IsAmple all b c
ample_since {a} {b} {c} later ample = record { admitted = ample.admitted; stood = stood_since a b c later ample.stood }

-- it may always be taken as one in which neither was so
pub take_none : {now : Bool} {a c : ℕ} → MayTake false false now a c
take_none = record { admitted = λ no. absurd cc; memory = λ no. absurd cc }

-- what holds of the answers to all lines holds of those where memory was ample
pub spared_lawful : (ample : Bool) (by : Answering (List ℕ)) → IsLawful by → IsLawful (spared ample by)
spared_lawful ample by lawful = record { extends = lawful.extends; ends = lawful.ends }

-- where memory was ample none failed, and else one failed where it may
pub spares : (ample : Bool) (failed : Option ℕ) (P : Type 0) → (ample ≡ true → failed ≡ None) → IfSome failed (λ attempt. P)
    → IfSome failed (λ attempt. MayFailUnless ample P)
spares ample None P none may = tt
spares true (Some k) P none may = let no : Some k ≡ None = none refl in absurd cc
spares false (Some k) P none may = may
