-- The lists of a line, with one more pair or triple.
use Rattle.lx_reader.proofs.Imports.{◌≡◌, ℕ, suc, ◌%◌, Bool, true, false, cond, List, [], ◌∷◌, length, Result, Err, refl, ap, ◌∙◌, arith, ◌==◌}
use Rattle.lx_reader.proofs.Imports.{Member, PatchRow, TextFault, ShortList, desk_limits, pairs, triples, FirstIsMember, FirstIsRow, all_pairs}
use Rattle.lx_reader.proofs.Imports.{all_triples, onto}
use Rattle.lx_reader.proofs.SectionLevels.{onto_one}

two_more : (n : ℕ) → suc (suc n) % 2 ≡ n % 2
two_more n = omega arith

three_more : (n : ℕ) → suc (suc (suc n)) % 3 ≡ n % 3
three_more n = omega arith

onto_if : {A : Type 0} (i : ℕ) (xs : List A) (b : Bool) (r : Result (List A) TextFault)
    → cond b (onto xs r) (Err (ShortList i)) ≡ onto xs (cond b r (Err (ShortList i)))
onto_if i xs true r = refl
onto_if i xs false r = refl

-- a list whose length is a multiple, with one more entry
list_first : {A : Type 0} (i : ℕ) (x : A) {k n : ℕ} (all rest : Result (List A) TextFault) → k ≡ n → all ≡ onto (x ∷ []) rest
    → cond (k == 0) all (Err (ShortList i)) ≡ onto (x ∷ []) (cond (n == 0) rest (Err (ShortList i)))
list_first i x {n = n} all rest same first =
    (λ j. cond (same j == 0) (first j) (Err (ShortList i))) ∙ onto_if i (x ∷ []) (n == 0) rest

pub member_first : (i : ℕ) (all others : List (List ℕ)) (m : Member) → FirstIsMember all m others
    → all_pairs i all ≡ onto (m ∷ []) (all_pairs i others)
member_first i all others m is =
    ap (all_pairs i) is.first
    ∙ list_first i m (pairs desk_limits i (is.chan_token ∷ is.level_token ∷ others)) (pairs desk_limits i others) (two_more (length others))
    (rw (is.chan, is.level) (onto_one m (pairs desk_limits i others)))

pub row_first : (i : ℕ) (all others : List (List ℕ)) (row : PatchRow) → FirstIsRow all row others
    → all_triples i all ≡ onto (row ∷ []) (all_triples i others)
row_first i all others row is =
    ap (all_triples i) is.first
    ∙ list_first i row (triples desk_limits i (is.chan_token ∷ is.dimmer_token ∷ is.level_token ∷ others)) (triples desk_limits i others)
    (three_more (length others)) (rw (is.chan, is.dimmer, is.level) (onto_one row (triples desk_limits i others)))
