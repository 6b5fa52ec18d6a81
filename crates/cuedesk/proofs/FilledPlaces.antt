-- Places that each have something, as the live run and the crew ask for them.
use Rattle.std.proofs.Common.{◌≡◌, ℕ, zero, suc, List, [], ◌∷◌, Some, slice_get, IsSome, subst}
use Rattle.std.specs.declared.option.Option.{Option}
use Rattle.std.proofs.lemmas.Option.{same_Some}
use Rattle.lx_base.specs.Places.{EachAt}
use Rattle.lx_workers.specs.Places.{IsFull}
use Rattle.lx_program.specs.Places.{AreFilled}

pub full : {A : Type 0} (places : List (Option A)) → AreFilled places → IsFull places
full [] filled = tt
full (held ∷ places) filled = (filled.0, full places filled.1)

pub each : {A : Type 0} (places : List (Option A)) → AreFilled places → EachAt (λ place held. IsSome held) places
each [] filled k x at = absurd cc
each (held ∷ places) filled zero x at = subst (λ o. IsSome o) (same_Some held x at) filled.0
each (held ∷ places) filled (suc k) x at = each places filled.1 k x at
