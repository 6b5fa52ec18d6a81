-- The step that adds a batch keeps the rule of the history.
use Rattle.lx_gate.proofs.Imports.{◌≡◌, ℕ, ◌+◌, ◌<◌, ◌==◌, ◌≢◌, Bool, true, false, List, [], ◌∷◌, ◌++◌, length, refl, ap}
use Rattle.lx_gate.proofs.Imports.{sym, ◌∙◌, subst, arith, inl, append_assoc, length-append, None, MatchBool, append-nil, nat_tests, IsPrefix, Command}
use Rattle.lx_gate.proofs.Imports.{flat, IsLonger}
use prog.Atomic.{either}
use Rattle.logbook.specs.Pages.{Cell, cell, keeps, no_nib, step, Moves, Goes}
use Rattle.lx_gate.specs.Histories.{IsCounted, Adds}
use Rattle.lx_gate.proofs.Prefixes.{prefix_whole, prefix_length}

pub flat-append : (xs ys : List (List Command)) → flat (xs ++ ys) ≡ flat xs ++ flat ys
flat-append [] ys = refl
flat-append (x ∷ xs) ys = ap (λ w. x ++ w) (flat-append xs ys) ∙ sym (append_assoc x (flat xs) (flat ys))

pub flat-snoc : (xs : List (List Command)) (b : List Command) → flat (xs ++ b ∷ []) ≡ flat xs ++ b
flat-snoc xs b = flat-append xs (b ∷ []) ∙ ap (λ w. flat xs ++ w) (append-nil b)

pub flat_prefix : (xs ys : List (List Command)) → IsPrefix xs ys → IsPrefix (flat xs) (flat ys)
flat_prefix xs ys p = (flat p.0, sym (flat-append xs p.0) ∙ ap flat p.1)

abbrev pub shown : List (List Command) → List (List Command)
shown log = []

abbrev pub moved : List (List Command) → List (List Command) → ℕ → Type 0
moved xs ys n = Unit {0}

pub adds_goes : (log v : List (List Command)) (b : List Command) (old new : ℕ) → length (flat v) ≡ old → new ≡ old + length b
    → IsPrefix v log
    → (t : Bool) → (length (flat log) == old) ≡ t
    → Goes IsCounted shown moved 0 (v, (no_nib, None)) (λ n. either (n == old) new n) (Adds (step 0 old new b) (v, (no_nib, None)))
    ((length (flat log), true) ∷ (0, true) ∷ []) log
adds_goes log v b old new len more pre true is =
    let here : length (flat log) ≡ old = grind (arith, nat_tests) in
    let same : flat v ≡ flat log = prefix_whole (flat v) (flat log) (flat_prefix v log pre) (omega arith) in
    let n : new ≡ length (flat (log ++ b ∷ [])) = omega (arith, ap length (flat-snoc log b), length-append (flat log) b) in
    rw is (
      keeps,
      b ∷ [],
      None,
      tt,
      record { words = ap (λ (k : ℕ). (k, true) ∷ (0, true) ∷ []) n },
      inl (refl, refl),
      flat-snoc log b ∙ ap (λ w. w ++ b) (sym same),
    )
adds_goes log v b old new len more pre false is =
    let n : length (flat (log ++ [])) ≡ length (flat log) = ap (λ w. length (flat w)) (append-nil log) in
    rw is (keeps, [], None, tt, record { words = ap (λ (k : ℕ). (k, true) ∷ (0, true) ∷ []) (sym n) }, inl (refl, refl), n)

-- whatever the history is, the exchange adds the commands to all that was seen, or finds that the history is longer
pub adds_moves : (v : List (List Command)) (b : List Command) (old new : ℕ) → length (flat v) ≡ old → new ≡ old + length b
    → Moves IsCounted shown moved 0 (v, (no_nib, None)) (λ n. either (n == old) new n) (Adds (step 0 old new b) (v, (no_nib, None)))
adds_moves v b old new len more cs log kept pre away =
    rw kept.words (omega arith, refl, adds_goes log v b old new len more pre (length (flat log) == old) refl)

-- where the length found isn't the one expected, what is then seen is longer
pub adds_longer : (v w : List (List Command)) (b : List Command) (old found : ℕ) → found ≢ old → length (flat v) ≡ old → IsPrefix v w
    → MatchBool (found == old) (flat w ≡ flat v ++ b) (length (flat w) ≡ found) → IsLonger (flat v) (flat w)
adds_longer v w b old found other len pre then =
    let test : (found == old) ≡ false = grind (arith, nat_tests) in
    let more : length (flat w) ≡ found = subst (λ (t : Bool). MatchBool t (flat w ≡ flat v ++ b) (length (flat w) ≡ found)) test then in
    let p = flat_prefix v w pre in
    let le = prefix_length (flat v) (flat w) p in
    (p, omega arith)
