-- A sorted list placed over another one: of each number its entry counts, where it has one.
use Rattle.lx_reader.proofs.Imports.{◌≡◌, ℕ, List, [], ◌∷◌, Option, Some, None, refl, ap, ◌∙◌, sym, inl, inr, arith, fold, cases_eq, Member, Move}
use Rattle.lx_reader.proofs.Imports.{IsStrictlySorted, all_placed, entry_at, placed, each, IsStrictlySorted-placed, entry_at-placed_here}
use Rattle.lx_reader.proofs.Imports.{entry_at-placed_other, IsStrictlySorted-all_placed, members_of, later, moves_of}
use Rattle.std.proofs.lemmas.List.Folds.{fold-map}
use Rattle.lx_show.proofs.SameLists.{first_here, first_other, none_low, same_lists}
use Rattle.lx_reader.proofs.Members.{all_map}
use Rattle.lx_reader.proofs.PlacedNumbers.{map-placed}

entry_over : {A : Type 0} (key : A → ℕ) (n : ℕ) (over xs : List A) → IsStrictlySorted key over
    → entry_at key n (all_placed key over xs) ≡ later (entry_at key n over) (entry_at key n xs)
entry_over key n [] xs rises = refl
entry_over {A} key n (x ∷ over) xs rises =
    let rest = entry_over key n over (placed key x xs) rises.1 in
    elim (cases_eq (key x) n) [
      | inl here ↦
          let none : entry_at key n over ≡ None = none_low key n over (each _ _ over (λ y h. omega (arith, h, here)) rises.0) in
          rest ∙ ap (λ o. later o (entry_at key n (placed key x xs))) none ∙ entry_at-placed_here key n x xs here
          ∙ sym (ap (λ o. later o (entry_at key n xs)) (first_here key n x over here))
      | inr other ↦ rest ∙ ap (later (entry_at key n over)) (entry_at-placed_other key n x xs other)
          ∙ sym (ap (λ o. later o (entry_at key n xs)) (first_other key n x over other))
    ]

-- one more entry, placed before or afterwards
placed_over : {A : Type 0} (key : A → ℕ) (x : A) (over xs : List A) → IsStrictlySorted key over → IsStrictlySorted key xs
    → all_placed key (placed key x over) xs ≡ placed key x (all_placed key over xs)
placed_over key x over xs rises sorted =
    same_lists key (all_placed key (placed key x over) xs) (placed key x (all_placed key over xs))
    (IsStrictlySorted-all_placed key (placed key x over) xs sorted)
    (IsStrictlySorted-placed key x (all_placed key over xs) (IsStrictlySorted-all_placed key over xs sorted))
    (λ n. entry_over key n (placed key x over) xs (IsStrictlySorted-placed key x over rises) ∙ elim (cases_eq (key x) n) [
      | inl here ↦ ap (λ o. later o (entry_at key n xs)) (entry_at-placed_here key n x over here)
          ∙ sym (entry_at-placed_here key n x (all_placed key over xs) here)
      | inr other ↦ ap (λ o. later o (entry_at key n xs)) (entry_at-placed_other key n x over other)
          ∙ sym (entry_over key n over xs rises) ∙ sym (entry_at-placed_other key n x (all_placed key over xs) other)
    ])

-- so it is with several
pub all_placed_over : {A : Type 0} (key : A → ℕ) (more over xs : List A) → IsStrictlySorted key over → IsStrictlySorted key xs
    → all_placed key (all_placed key more over) xs ≡ all_placed key more (all_placed key over xs)
all_placed_over key [] over xs rises sorted = refl
all_placed_over key (x ∷ more) over xs rises sorted =
    all_placed_over key more (placed key x over) xs (IsStrictlySorted-placed key x over rises) sorted
    ∙ ap (all_placed key more) (placed_over key x over xs rises sorted)

or_none : {A : Type 0} (o : Option A) → later o None ≡ o
or_none None = refl
or_none (Some x) = refl

-- The levels of moves.
abbrev member_of : Move → Member
member_of m = record { chan = m.chan; level = m.level }

pub members_all_placed : (more moves : List Move)
    → members_of (all_placed (λ m. m.chan) more moves) ≡ all_placed (λ m. m.chan) (members_of more) (members_of moves)
members_all_placed [] moves = refl
members_all_placed (m ∷ more) moves = members_all_placed more (placed (λ x. x.chan) m moves)
    ∙ ap (all_placed (λ x. x.chan) (members_of more)) (map-placed (λ x. x.chan) (λ x. x.chan) member_of (λ x. refl) m moves)

pub members_of_moves : (p : ℕ) (members : List Member) → members_of (moves_of p members) ≡ members
members_of_moves p [] = refl
members_of_moves p (m ∷ members) = ap (λ ms. m ∷ ms) (members_of_moves p members)

pub members_rise : (moves : List Move) → IsStrictlySorted (λ m. m.chan) moves → IsStrictlySorted (λ m. m.chan) (members_of moves)
members_rise [] rises = tt
members_rise (m ∷ moves) rises = (all_map _ moves (λ x h. h) rises.0, members_rise moves rises.1)

-- the level of a move placed, and those of several
abbrev pub level_placed : List Member → Move → List Member
level_placed members m = placed (λ x. x.chan) (record { chan = m.chan; level = m.level }) members

abbrev pub levels_placed : List Member → List Move → List Member
levels_placed members moves = fold level_placed members moves

pub levels_are_placed : (members : List Member) (moves : List Move)
    → levels_placed members moves ≡ all_placed (λ x. x.chan) (members_of moves) members
levels_are_placed members moves = sym (fold-map (λ ms (m : Member). placed (λ x. x.chan) m ms) member_of members moves)

-- over nothing it is as it is
pub placed_alone : {A : Type 0} (key : A → ℕ) (over list old : List A) → IsStrictlySorted key over → list ≡ over → old ≡ []
    → list ≡ all_placed key over old
placed_alone key over list old rises is none =
    is ∙ sym (same_lists key (all_placed key over []) over (IsStrictlySorted-all_placed key over [] tt) rises
    (λ n. entry_over key n over [] rises ∙ or_none (entry_at key n over))) ∙ ap (all_placed key over) (sym none)
