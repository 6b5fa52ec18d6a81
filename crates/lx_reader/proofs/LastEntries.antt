-- Lists of entries with one more at the end.
use Rattle.lx_reader.proofs.Imports.{◌≡◌, Bool, true, false, cond, List, [], ◌∷◌, ◌++◌, Option, Some, None, refl, ap, ◌∙◌, ◌||◌, filter, filter_map}
use Rattle.lx_reader.proofs.Imports.{unwrap_or, last_or, list_any, cons_option, filter-append, filter_map-append, list_any-append, Entry, PlacedEntry}
use Rattle.lx_reader.proofs.Imports.{last_in, later, append-nil, flat_map, fold, flat_map-append, fold-append}

pub last_or-append : {A : Type 0} (o : Option A) (xs ys : List A) → last_or o (xs ++ ys) ≡ last_or (last_or o xs) ys
last_or-append o [] ys = refl
last_or-append o (x ∷ xs) ys = last_or-append (Some x) xs ys

last_or-option : {A : Type 0} (o x : Option A) → last_or o (cons_option x []) ≡ later x o
last_or-option o None = refl
last_or-option o (Some x) = refl

pub last_in-more : {A : Type 0} (of : Entry → Option A) (all : List PlacedEntry) (s : PlacedEntry)
    → last_in of (all ++ s ∷ []) ≡ later (of s.entry) (last_in of all)
last_in-more of all s =
    ap (λ v. last_or None v) (filter_map-append (λ z. of z.entry) all (s ∷ []))
    ∙ last_or-append None (filter_map (λ z. of z.entry) all) (cons_option (of s.entry) [])
    ∙ last_or-option (last_in of all) (of s.entry)

or_more : (a b : Bool) → (a || (b || false)) ≡ cond b true a
or_more true true = refl
or_more true false = refl
or_more false true = refl
or_more false false = refl

pub any-more : {A : Type 0} (test : A → Bool) (xs : List A) (x : A) → list_any test (xs ++ x ∷ []) ≡ cond (test x) true (list_any test xs)
any-more test xs x = list_any-append test xs (x ∷ []) ∙ or_more (list_any test xs) (test x)

pub unwrap-later : {A : Type 0} (x o : Option A) (d : A) → unwrap_or (later x o) d ≡ unwrap_or x (unwrap_or o d)
unwrap-later None o d = refl
unwrap-later (Some x) o d = refl

-- the entries that pass a test, with one more
pub filter-more : {A : Type 0} (test : A → Bool) (xs : List A) (x : A)
    → filter test (xs ++ x ∷ []) ≡ filter test xs ++ cond (test x) (x ∷ []) []
filter-more test xs x = filter-append test xs (x ∷ [])

-- what a fold makes of all that the entries say, with one more
pub fold_flat-more : {A B C : Type 0} (step : C → A → C) (z : C) (f : B → List A) (all : List B) (s : B)
    → fold step z (flat_map f (all ++ s ∷ [])) ≡ fold step (fold step z (flat_map f all)) (f s)
fold_flat-more step z f all s =
    ap (fold step z) (flat_map-append f all (s ∷ []) ∙ ap (λ v. flat_map f all ++ v) (append-nil (f s))) ∙ fold-append step z (flat_map f all) (f s)

pub fold_picked-more : {A B C : Type 0} (step : C → A → C) (z : C) (f : B → Option A) (all : List B) (s : B)
    → fold step z (filter_map f (all ++ s ∷ [])) ≡ fold step (fold step z (filter_map f all)) (cons_option (f s) [])
fold_picked-more step z f all s =
    ap (fold step z) (filter_map-append f all (s ∷ [])) ∙ fold-append step z (filter_map f all) (cons_option (f s) [])
