-- A sorted list comes back from its entries, also where they are placed group by group.
use Rattle.lx_text_laws.proofs.Imports.{◌≡◌, ℕ, ◌<◌, Bool, true, false, cond, ◌||◌, List, [], ◌∷◌, ◌++◌, map, filter, flat_map, refl, AllByRecursion}
use Rattle.lx_text_laws.proofs.Imports.{list_any, ap, ◌∙◌, sym, append_assoc, fold-append, IsStrictlySorted, placed, last_of_each, each, kept_by}
use Rattle.lx_text_laws.proofs.Imports.{filter_all, all_append}
use Rattle.lx_spec.specs.SortedList.{all_placed}
use Rattle.lx_spec.proofs.SortedLists.{goes_between, stands_between}
use Rattle.std.proofs.Math.Bool.{or_assoc, or-false}
use Rattle.lx_reader.proofs.Members.{all_map}

pub IsStrictlySorted-map : {A B : Type 0} (key : B → ℕ) (f : A → B) (xs : List A) → IsStrictlySorted (λ x. key (f x)) xs
    → IsStrictlySorted key (map f xs)
IsStrictlySorted-map key f [] sorted = tt
IsStrictlySorted-map key f (x ∷ xs) sorted = (all_map (λ y. key (f x) < key y) xs (λ y h. h) sorted.0, IsStrictlySorted-map key f xs sorted.1)

module _ {A : Type 0} (key : A → ℕ) where
  -- an entry in its place between those below it and those above it, where it may stand already
  placed-between : (x : A) (before after : List A) (b : Bool) → AllByRecursion (λ y. key y < key x) before
      → AllByRecursion (λ y. key x < key y) after → placed key x (before ++ cond b (x ∷ after) after) ≡ before ++ x ∷ after
  placed-between x before after true low high =
      let cut = stands_between key (key x) before after x low refl high in λ j. cut.0 j ++ x ∷ cut.2 j
  placed-between x before after false low high =
      let cut = goes_between key (key x) before after low high in λ j. cut.0 j ++ x ∷ cut.2 j

  abbrev IsBelow : List A → A → Type 0
  IsBelow zs y = AllByRecursion (λ z. key y < key z) zs

  -- behind entries that are placed, those of one group are placed among those that are there
  place_group : (t u : A → Bool) (front todo : List A) → AllByRecursion (IsBelow todo) front → IsStrictlySorted key todo
      → all_placed key (filter u todo) (front ++ filter t todo) ≡ front ++ filter (λ x. t x || u x) todo
  place_group t u front [] below sorted = refl
  place_group t u front (x ∷ todo) below sorted =
      let ts = filter t todo in
      let us = filter u todo in
      let both = filter (λ y. t y || u y) todo in
      let rest = each (IsBelow (x ∷ todo)) (IsBelow todo) front (λ y b. b.1) below in
      let kept : all_placed key us (front ++ x ∷ ts) ≡ front ++ x ∷ both =
      ap (all_placed key us) (sym (append_assoc front (x ∷ []) ts))
      ∙ place_group t u (front ++ x ∷ []) todo (all_append (IsBelow todo) front (x ∷ []) rest (sorted.0, tt)) sorted.1
      ∙ append_assoc front (x ∷ []) both in
      let new = λ (a : Bool). ap (all_placed key us) (placed-between x front ts a
      (each (IsBelow (x ∷ todo)) (λ y. key y < key x) front (λ y b. b.0) below) (kept_by (λ z. key x < key z) t todo sorted.0)) ∙ kept in
      let split : (a b : Bool) → all_placed key (cond b (x ∷ us) us) (front ++ cond a (x ∷ ts) ts)
      ≡ front ++ cond (a || b) (x ∷ both) both = elim [
        | true ↦ elim [ true ↦ new true | false ↦ kept ]
        | false ↦ elim [ true ↦ new false | false ↦ place_group t u front todo rest sorted.1 ]
      ] in
      split (t x) (u x)

  none_kept : (xs : List A) → filter (λ x. false) xs ≡ []
  none_kept [] = refl
  none_kept (x ∷ xs) = none_kept xs

  grouped : {P : Type 0} (member : P → A → Bool) (xs : List A) → IsStrictlySorted key xs → (t : A → Bool) (ps : List P)
      → all_placed key (flat_map (λ p. filter (member p) xs) ps) (filter t xs) ≡ filter (λ x. t x || list_any (λ p. member p x) ps) xs
  grouped member xs sorted t [] = λ j. filter (λ x. sym (or-false (t x)) j) xs
  grouped member xs sorted t (p ∷ ps) =
      let more = flat_map (λ q. filter (member q) xs) ps in
      fold-append (λ ys x. placed key x ys) (filter t xs) (filter (member p) xs) more
      ∙ ap (all_placed key more) (place_group t (member p) [] xs tt sorted)
      ∙ grouped member xs sorted (λ x. t x || member p x) ps
      ∙ (λ j. filter (λ x. or_assoc (t x) (member p x) (list_any (λ q. member q x) ps) j) xs)

  -- groups that have every entry
  pub last_of_each-grouped : {P : Type 0} (member : P → A → Bool) (xs : List A) (ps : List P) → IsStrictlySorted key xs
      → AllByRecursion (λ x. list_any (λ p. member p x) ps ≡ true) xs
      → last_of_each key (flat_map (λ p. filter (member p) xs) ps) ≡ xs
  last_of_each-grouped member xs ps sorted all =
      ap (all_placed key (flat_map (λ p. filter (member p) xs) ps)) (sym (none_kept xs))
      ∙ grouped member xs sorted (λ x. false) ps
      ∙ filter_all (λ x. list_any (λ p. member p x) ps) xs all
