-- Texts that are put onto a sink one after another, each by a call whose contract says `Puts`.
--
-- How other crates use this. A function that appends a text ensures
--     Puts K.Sink sink.old sink.new result TEXT
-- and makes its calls with `?`, as the tail, in a `match` or under an `if`. The module that holds such functions begins with
--     #![tactic(auto, using(lx_io::proofs::Chain::puts))]
-- and then they need no answer. Each `?` has a goal, so keep a row of calls to five or so. A loop with a call per element needs its invariant
-- alone, which is `Puts` of what was put so far:
--     invariant-loop-x g l = Puts {T = Unit {0}} g.K.Sink l.initial.sink l.sink (Ok tt)
--         (flat_map text_of (take l.x-index l.xs))
-- where the contract's text is `flat_map text_of xs.now`; where an `if` passes some elements over, it is
-- `flat_map text_of (filter test xs.now)`, and the invariant has `filter test (take l.x-index l.xs)`.
-- Where a goal stays open, answer it by the lemmas at the end of this file:
--     returns-in_err-f g c = Puts-stops _ c.in_err-f.ensures c.from_residual.ensures
--     returns-in_err-h g c = Puts-then c.in_ok-f.ensures (Puts-stops _ c.in_err-h.ensures c.from_residual-in_err-h.ensures)
--     returns g c = Puts-is (Puts-then (Puts-then c.in_ok-f.ensures c.in_ok-h.ensures) c.k.ensures) (simp append_assoc)
use Rattle.lx_io.proofs.Imports.{◌≡◌, ℕ, ◌+◌, ◌-◌, ◌<◌, ◌≤◌, List, [], ◌∷◌, ◌++◌, length, take, drop, get_or, Result, Ok}
use Rattle.lx_io.proofs.Imports.{Err, Some, None, refl, sym, ap, ◌∙◌, append_assoc, append-nil, arith, length-append, length-take, add-one, drop-cons}
use Rattle.lx_io.proofs.Imports.{take-append-drop, Bool, flat_map, filter, Option, Appends, take-append-le, take_all, take-append-add, flat_map-append}
use Rattle.lx_io.proofs.Imports.{AppendsFront, PutsBy}
use Rattle.std.proofs.lemmas.List.Elements.{filter-append}
use Rattle.std.specs.Result.{IsErr, IsErrAnd}
use Rattle.lx_io.specs.declared.sink.SinkFault.{SinkFault}

-- a front of a list is a front of a longer one
pub front_along : (xs ys more : List ℕ) → take (length ys) xs ≡ ys → take (length ys) (xs ++ more) ≡ ys
front_along xs ys more e =
    let within : length ys ≤ length xs = omega (arith, ap length e, length-take (length ys) xs) in
    take-append-le (length ys) xs more within ∙ e

-- joined lists are bracketed to the left, and an element is a list of its own, so that two rows of pieces can be compared
pub append_from_left : (xs ys zs : List ℕ) → xs ++ (ys ++ zs) ≡ (xs ++ ys) ++ zs
append_from_left xs ys zs = sym (append_assoc xs ys zs)

pub append_one : (xs : List ℕ) (y : ℕ) (ys : List ℕ) → xs ++ (y ∷ ys) ≡ (xs ++ y ∷ []) ++ ys
append_one xs y ys = sym (append_assoc xs (y ∷ []) ys)

-- a text with a piece for each element, split at an element. `grind` takes a lemma up at the first call of its conclusion that
-- shows all its variables: hence the first part
pub flat_map_split : {X : Type 0} (f : X → List ℕ) (xs : List X) (i : ℕ)
    → (flat_map f (take i xs) ≡ flat_map f (take i xs)) × (flat_map f xs ≡ flat_map f (take i xs) ++ flat_map f (drop i xs))
flat_map_split f xs i = (refl, ap (flat_map f) (sym (take-append-drop i xs)) ∙ flat_map-append f (take i xs) (drop i xs))

pub filter_split : {X : Type 0} (p : X → Bool) (xs : List X) (i : ℕ)
    → (filter p (take i xs) ≡ filter p (take i xs)) × (filter p xs ≡ filter p (take i xs) ++ filter p (drop i xs))
filter_split p xs i = (refl, ap (filter p) (sym (take-append-drop i xs)) ∙ filter-append p (take i xs) (drop i xs))

pub drop_here : {X : Type 0} (xs : List X) (i : ℕ) (d : X) → i < length xs
    → (get_or xs i d ≡ get_or xs i d) × (drop i xs ≡ get_or xs i d ∷ drop (i + 1) xs)
drop_here xs i d within = (refl, rw add-one (drop-cons xs i d within))

-- what a row of calls needs
pub ruleset puts = (
  front_along,
  append_from_left,
  append_one,
  append-nil,
  length-append,
  flat_map-append,
  flat_map_split,
  filter_split,
  drop_here,
)

-- a text was put, and then another one
pub Puts-then : {S T U : Type 0} {holds : S → Option (List ℕ)} {faults wants : S → ℕ} {a b c : S} {t : T} {r : Result U SinkFault}
    {xs ys : List ℕ}
    → PutsBy holds faults wants a b (Ok t) xs → PutsBy holds faults wants b c r ys → PutsBy holds faults wants a c r (xs ++ ys)
Puts-then p q = grind (arith, puts)

-- a text was not put whole, and nothing was put after it
pub Puts-fails : {S T U : Type 0} {holds : S → Option (List ℕ)} {faults wants : S → ℕ} {a b : S} {e : SinkFault} {xs : List ℕ} (ys : List ℕ)
    → PutsBy {T = T} holds faults wants a b (Err e) xs → PutsBy {T = U} holds faults wants a b (Err e) (xs ++ ys)
Puts-fails ys p = grind (arith, puts)

-- the same, where the fault goes through a `?`
pub Puts-stops : {S T U : Type 0} {holds : S → Option (List ℕ)} {faults wants : S → ℕ} {a b : S} {e : SinkFault} {r : Result U SinkFault}
    {xs : List ℕ} (ys : List ℕ)
    → PutsBy {T = T} holds faults wants a b (Err e) xs → IsErr r × IsErrAnd r (λ y. y ≡ e) → PutsBy {T = U} holds faults wants a b r (xs ++ ys)
Puts-stops ys p is = grind (arith, puts)

-- the same text, said otherwise
pub Puts-is : {S T : Type 0} {holds : S → Option (List ℕ)} {faults wants : S → ℕ} {a b : S} {r : Result T SinkFault} {xs ys : List ℕ}
    → PutsBy holds faults wants a b r xs → xs ≡ ys → PutsBy holds faults wants a b r ys
Puts-is p e = grind (arith, puts)

-- the same text, with another value
pub Puts-ok : {S T U : Type 0} {holds : S → Option (List ℕ)} {faults wants : S → ℕ} {a b : S} {t : T} {xs : List ℕ} (u : U)
    → PutsBy holds faults wants a b (Ok t) xs → PutsBy holds faults wants a b (Ok u) xs
Puts-ok u p = grind (arith, puts)

-- a front of a text is as many of its first bytes as were appended
pub AppendsFront-is : (old new : Option (List ℕ)) (text : List ℕ) → AppendsFront old new text → (n : ℕ) × Appends old new (take n text)
AppendsFront-is None new text p = (0, tt)
AppendsFront-is (Some xs) None text p = absurd p
AppendsFront-is (Some xs) (Some ys) text p =
    let n : ℕ = length ys - length xs in
    let all : length ys ≡ length xs + n = omega (arith, p.0) in
    (n, sym p.1 ∙ ap (λ m. take m (xs ++ text)) all ∙ take-append-add xs text n)

pub AppendsFront-from : (old new : Option (List ℕ)) (text : List ℕ) (n : ℕ) → Appends old new (take n text) → AppendsFront old new text
AppendsFront-from None new text n p = tt
AppendsFront-from (Some xs) None text n p = absurd p
AppendsFront-from (Some xs) (Some ys) text n p =
    let all : xs ++ text ≡ ys ++ drop n text = ap (λ v. xs ++ v) (sym (take-append-drop n text))
    ∙ sym (append_assoc xs (take n text) (drop n text)) ∙ ap (λ v. v ++ drop n text) (sym p) in (
      omega (arith, ap length p, length-append xs (take n text)),
      ap (take (length ys)) all ∙ take-append-le (length ys) ys (drop n text) (omega arith) ∙ take_all (length ys) ys (omega arith),
    )
