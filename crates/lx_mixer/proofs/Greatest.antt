-- The greater of the levels in each lane.
use Rattle.lx_mixer.proofs.Imports.{◌≡◌, ℕ, false, cond, ltb, max, List, length, get_or, map, w8, sym, ap, ◌∙◌, inl, inr, arith, cases_lt, lt-ltb}
use Rattle.lx_mixer.proofs.Imports.{le-ltb, cond-true, cond-false, tops_compared, length-zip2, get_or-zip2, length-sel_l, get_or-sel_l, zip2, sel_l, top}
use Rattle.lx_mixer.proofs.Imports.{HasLanes}

chosen : (a b : ℕ) → cond (ltb a b) b a ≡ max a b
chosen a b = elim (cases_lt a b) [
  | inl less ↦ cond-true _ _ _ (lt-ltb a b less) ∙ omega arith
  | inr more ↦ cond-false _ _ _ (le-ltb a b more) ∙ omega arith
]

pub greater_lanes : (xs ys : List ℕ) → length xs ≡ 32 → length ys ≡ 32
    → HasLanes (sel_l (map (top 7) (zip2 (λ a b. cond (ltb a b) 255 0) xs ys)) ys xs) (λ k. max (get_or xs k 0) (get_or ys k 0))
greater_lanes xs ys long long' =
    let tops : map (top 7) (zip2 (λ a b. cond (ltb a b) 255 0) xs ys) ≡ zip2 ltb xs ys = tops_compared w8 ltb xs ys in
    let reach : length (zip2 ltb xs ys) ≡ 32 = length-zip2 ltb xs ys (long ∙ sym long') ∙ long in
    rw tops (record {
      long = length-sel_l (zip2 ltb xs ys) ys xs (reach ∙ sym long') (reach ∙ sym long) ∙ reach;
      each = λ k less.
          get_or-sel_l (zip2 ltb xs ys) ys xs k 0 (omega arith) (omega arith) (omega arith)
          ∙ ap (λ b. cond b (get_or ys k 0) (get_or xs k 0)) (get_or-zip2 ltb xs ys k 0 0 false (omega arith) (omega arith))
          ∙ chosen (get_or xs k 0) (get_or ys k 0);
    })
