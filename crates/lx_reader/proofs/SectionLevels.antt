-- Entries that are put into a show one after another.
use Rattle.lx_reader.proofs.Imports.{◌≡◌, ℕ, List, [], ◌∷◌, ◌++◌, refl, ap, ◌∙◌, sym, append_assoc, Result, Ok, Err, map-append, fold-append}
use Rattle.lx_reader.proofs.Imports.{PatchRow, Show, with_rows, all_triples, onto, ◌>>=◌}

pub rows-again : (xs ys : List PatchRow) (show : Show) → with_rows ys (with_rows xs show) ≡ with_rows (xs ++ ys) show
rows-again xs ys show = simp (map-append, fold-append)

pub onto_nothing : {A E : Type 0} (r : Result (List A) E) → r ≡ onto [] r
onto_nothing (Ok xs) = refl
onto_nothing (Err e) = refl

pub onto_one : {A E : Type 0} (x : A) (r : Result (List A) E) → (r >>= (λ more. Ok (x ∷ more))) ≡ onto (x ∷ []) r
onto_one x (Ok more) = refl
onto_one x (Err e) = refl

pub onto_again : {A E : Type 0} (xs ys : List A) (r : Result (List A) E) → onto xs (onto ys r) ≡ onto (xs ++ ys) r
onto_again xs ys (Ok zs) = ap Ok (sym (append_assoc xs ys zs))
onto_again xs ys (Err e) = refl

-- the rows of a line that were read are in the show
pub record RowsSoFar (i : ℕ) (old new : Show) (all rest : List (List ℕ)) : Type 0 where
  pub done : List PatchRow
  pub list : all_triples i all ≡ onto done (all_triples i rest)
  pub show : new ≡ with_rows done old

pub rows_begin : (i : ℕ) (show : Show) (all : List (List ℕ)) → RowsSoFar i show show all all
rows_begin i show all = record { done = []; list = onto_nothing (all_triples i all); show = refl }

pub rows_more : (i : ℕ) (old mid new : Show) (all rest rest' : List (List ℕ)) (row : PatchRow) → RowsSoFar i old mid all rest
    → all_triples i rest ≡ onto (row ∷ []) (all_triples i rest') → new ≡ with_rows (row ∷ []) mid → RowsSoFar i old new all rest'
rows_more i old mid new all rest rest' row so_far next is = record {
  done = so_far.done ++ row ∷ [];
  list = so_far.list ∙ ap (onto so_far.done) next ∙ onto_again so_far.done (row ∷ []) (all_triples i rest');
  show = is ∙ ap (with_rows (row ∷ [])) so_far.show ∙ rows-again so_far.done (row ∷ []) old;
}
