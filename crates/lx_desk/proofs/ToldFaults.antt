-- What a search among the faults of outlets, or of operators, says of them.
use Rattle.lx_desk.proofs.Imports.{◌≡◌, inl, inr, ℕ, suc, Bool, true, false, ◌||◌, Option, Some, None, List, [], ◌∷◌, slice_get, slice_get_within, refl, sym}
use Rattle.lx_desk.proofs.Imports.{ap, ◌∙◌, ◌+◌, ◌<◌, arith, list_any, SinkFault, OperatorFault, HasFailedOutlet}
use Rattle.std.proofs.Common.{get_or}
use Rattle.std.proofs.lemmas.Bool.{cases_Bool, cases_lt}
use Rattle.std.proofs.lemmas.List.Folds.{list_any_at}
use Rattle.std.proofs.lemmas.Option.{get_or_from_slice_get}
use Rattle.lx_io.specs.declared.sink.SinkFault.TheVariants as sinks

-- one passes the test
found : (test : Option SinkFault → Bool) (results : List (Option SinkFault)) → list_any test results ≡ true
    → (place : ℕ) × (fault : Option SinkFault) × (slice_get results place ≡ Some fault) × (test fault ≡ true)
found test [] is = absurd cc
found test (fault ∷ results) is = elim (cases_Bool (test fault)) [
  | inl passes ↦ (0, fault, refl, passes)
  | inr fails ↦ let w = found test results (ap (λ (b : Bool). b || list_any test results) (sym fails) ∙ is) in (suc w.0, w.1, w.2, w.3)
]

-- none does
not_there : (test : Option SinkFault → Bool) (results : List (Option SinkFault)) (place : ℕ) (fault : Option SinkFault)
    → list_any test results ≡ false → slice_get results place ≡ Some fault → test fault ≡ true → ⊥
not_there test results place fault is at passes =
    let there : list_any test results ≡ true = list_any_at test results place None (slice_get_within results place fault at)
    (ap test (get_or_from_slice_get results place fault None at) ∙ passes) in cc

is_failed : (test : Option SinkFault → Bool) (fault : Option SinkFault) → test None ≡ false → test (Some sinks.Memory) ≡ false
    → test fault ≡ true → fault ≡ Some sinks.Failed
is_failed test None none memory is = absurd cc
is_failed test (Some sinks.Failed) none memory is = refl
is_failed test (Some sinks.Memory) none memory is = absurd cc

is_memory : (test : Option SinkFault → Bool) (fault : Option SinkFault) → test None ≡ false → test (Some sinks.Failed) ≡ false
    → test fault ≡ true → fault ≡ Some sinks.Memory
is_memory test None none failed is = absurd cc
is_memory test (Some sinks.Failed) none failed is = absurd cc
is_memory test (Some sinks.Memory) none failed is = refl

-- a write failed in an outlet, or one was out of memory
pub failed_outlet : (test : Option SinkFault → Bool) (results : List (Option SinkFault)) → list_any test results ≡ true
    → test None ≡ false → test (Some sinks.Memory) ≡ false → HasFailedOutlet results
failed_outlet test results is none memory =
    let w = found test results is in
    (w.0, w.2 ∙ ap Some (is_failed test w.1 none memory w.3))

pub wanting_outlet : (test : Option SinkFault → Bool) (results : List (Option SinkFault)) → list_any test results ≡ true
    → test None ≡ false → test (Some sinks.Failed) ≡ false → (place : ℕ) × (slice_get results place ≡ Some (Some sinks.Memory))
wanting_outlet test results is none failed =
    let w = found test results is in
    (w.0, w.2 ∙ ap Some (is_memory test w.1 none failed w.3))

-- none did, and none was
pub no_failed_outlet : (test : Option SinkFault → Bool) (results : List (Option SinkFault)) → list_any test results ≡ false
    → test (Some sinks.Failed) ≡ true → HasFailedOutlet results → ⊥
no_failed_outlet test results is failed p = not_there test results p.0 (Some sinks.Failed) is p.1 failed

pub no_fault : (test other : Option SinkFault → Bool) (results : List (Option SinkFault)) → list_any test results ≡ false
    → list_any other results ≡ false → test (Some sinks.Failed) ≡ true → other (Some sinks.Memory) ≡ true
    → (place : ℕ) (fault : Option SinkFault) → slice_get results place ≡ Some fault → fault ≡ None
no_fault test other results is isnt failed memory place None at = refl
no_fault test other results is isnt failed memory place (Some sinks.Failed) at = absurd (not_there test results place _ is at failed)
no_fault test other results is isnt failed memory place (Some sinks.Memory) at = absurd (not_there other results place _ isnt at memory)

-- no fault up to one more
pub none_up_to : (told : List (Option OperatorFault)) (count : ℕ)
    → ((place : ℕ) (fault : Option OperatorFault) → place < count → slice_get told place ≡ Some fault → fault ≡ None)
    → get_or told count None ≡ None → (place : ℕ) (fault : Option OperatorFault) → place < count + 1 → slice_get told place ≡ Some fault
    → fault ≡ None
none_up_to told count before none place fault within at = elim (cases_lt place count) [
  | inl lower ↦ before place fault lower at
  | inr last ↦
      let same : place ≡ count = omega (arith, within, last) in
      sym (get_or_from_slice_get told place fault None at) ∙ ap (λ (k : ℕ). get_or told k None) same ∙ none
]
