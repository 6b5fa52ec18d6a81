-- Places that each have something.
use Rattle.std.specs.Prelude.{ℕ, ◌+◌, List, [], ◌∷◌, IfSome, IsSome}
use Rattle.std.specs.declared.option.Option.{Option}

-- each place has a source or a sink
abbrev pub AreFilled : {A : Type 0} → List (Option A) → Type 0
AreFilled [] = Unit {0}
AreFilled (held ∷ places) = IsSome held × AreFilled places

-- of each source or sink in the places this holds
abbrev pub OfEachPlace : {A : Type 0} → List (Option A) → (A → Type 0) → Type 0
OfEachPlace [] P = Unit {0}
OfEachPlace (held ∷ places) P = IfSome held P × OfEachPlace places P

-- the same of each and the number of its place, where the first of these places has this number
abbrev pub OfEachNumbered : {A : Type 0} → ℕ → List (Option A) → (ℕ → A → Type 0) → Type 0
OfEachNumbered number [] P = Unit {0}
OfEachNumbered number (held ∷ places) P = IfSome held (P number) × OfEachNumbered (number + 1) places P
