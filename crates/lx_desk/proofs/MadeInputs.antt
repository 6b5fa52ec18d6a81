-- What is drawn number by number is what the definition of the made input draws by its places.
use Rattle.lx_desk.proofs.Imports.{◌≡◌, ℕ, zero, suc, ◌+◌, ◌-◌, ◌*◌, ◌/◌, ◌%◌, ◌<◌, List, [], ◌∷◌, ◌++◌, refl, sym}
use Rattle.lx_desk.proofs.Imports.{ap, ap₂, ◌∙◌, append_assoc, append-nil, arith, flat_map, codes, decimal, range_with_len, line, drawn_from, chan_line}
use Rattle.lx_desk.proofs.Imports.{made_cue, made_turn, after_setting, after_cue, after_turn, setting_from, drawn_cue, turn_from, chan_text, drawn_cue_text}
use Rattle.lx_desk.proofs.Imports.{turn_text}
use Rattle.lx_desk.specs.Generator.{after_draw}

-- one draw, and two
one_more : (seed i : ℕ) → drawn_from seed (suc i) ≡ after_draw (drawn_from seed i)
unfolding after_draw
one_more seed i = refl

one_draw : (seed i j x : ℕ) → x ≡ drawn_from seed i → j ≡ i + 1 → after_draw x ≡ drawn_from seed j
one_draw seed i j x is next =
    let after : j ≡ suc i = omega (arith, next) in
    ap after_draw is ∙ sym (one_more seed i) ∙ ap (drawn_from seed) (sym after)

two_draws : (seed i j x : ℕ) → x ≡ drawn_from seed i → j ≡ i + 2 → after_setting x ≡ drawn_from seed j
two_draws seed i j x is next = one_draw seed (i + 1) j (after_draw x) (one_draw seed i (i + 1) x is refl) (omega (arith, next))

chan_at : (seed i j x : ℕ) → x ≡ drawn_from seed i → j ≡ i + 1 → chan_text (setting_from x) ≡ chan_line seed j
chan_at seed i j x is next =
    ap₂ (λ a b. line (codes "CHAN" ∷ (decimal (1 + a / 65536 % 512) ++ 64 ∷ decimal (b / 65536 % 101)) ∷ []))
    (one_draw seed i j x is next) (two_draws seed i (j + 1) x is (omega (arith, next)))

pieces : (a b c d e f : List ℕ) → (a ++ b) ++ (c ++ (d ++ (e ++ (f ++ [])))) ≡ a ++ b ++ c ++ d ++ e ++ f
pieces a b c d e f = simp (append_assoc, append-nil)

-- a cue, of nine draws
pub cue_is : (seed k x : ℕ) → x ≡ drawn_from seed (9 * k) → drawn_cue_text (k + 1) (drawn_cue x) ≡ made_cue seed (k + 1)
cue_is seed k x is =
    let i : ℕ = 9 * (k + 1 - 1) + 1 in
    let a : after_draw x ≡ drawn_from seed i = one_draw seed (9 * k) i x is (omega arith) in
    let b : after_setting (after_draw x) ≡ drawn_from seed (i + 2) = two_draws seed i (i + 2) (after_draw x) a refl in
    let c : after_setting (after_setting (after_draw x)) ≡ drawn_from seed (i + 4) =
    two_draws seed (i + 2) (i + 4) (after_setting (after_draw x)) b (omega arith) in
    let d : after_setting (after_setting (after_setting (after_draw x))) ≡ drawn_from seed (i + 6) =
    two_draws seed (i + 4) (i + 6) (after_setting (after_setting (after_draw x))) c (omega arith) in
    pieces (line (codes "CUE" ∷ decimal (k + 1) ∷ [])) (line (codes "UP" ∷ decimal (after_draw x / 65536 % 10) ∷ []))
    (chan_text (setting_from (after_draw x))) (chan_text (setting_from (after_setting (after_draw x))))
    (chan_text (setting_from (after_setting (after_setting (after_draw x)))))
    (chan_text (setting_from (after_setting (after_setting (after_setting (after_draw x))))))
    ∙ ap₂ (λ (v w : List ℕ). v ++ w)
    (ap₂ (λ (v w : List ℕ). v ++ w)
    (ap₂ (λ (v w : List ℕ). v ++ w)
    (ap₂ (λ (up : ℕ) (w : List ℕ). line (codes "CUE" ∷ decimal (k + 1) ∷ []) ++ line (codes "UP" ∷ decimal (up / 65536 % 10) ∷ []) ++ w) a
    (chan_at seed i (i + 1) (after_draw x) a refl))
    (chan_at seed (i + 2) (i + 3) (after_setting (after_draw x)) b (omega arith)))
    (chan_at seed (i + 4) (i + 5) (after_setting (after_setting (after_draw x))) c (omega arith)))
    (chan_at seed (i + 6) (i + 7) (after_setting (after_setting (after_setting (after_draw x)))) d (omega arith))

pub after_cue_is : (seed k x : ℕ) → x ≡ drawn_from seed (9 * k) → after_cue x ≡ drawn_from seed (9 * (k + 1))
after_cue_is seed k x is =
    let i : ℕ = 9 * k in
    two_draws seed (i + 7) (9 * (k + 1)) _ (two_draws seed (i + 5) (i + 7) _
    (two_draws seed (i + 3) (i + 5) _ (two_draws seed (i + 1) (i + 3) _ (one_draw seed i (i + 1) x is refl) (omega arith)) (omega arith))
    (omega arith)) (omega arith)

-- the line that sets a level, in pieces
paired : (s k d c a p n : List ℕ) → s ++ k ++ (d ++ c) ++ (a ++ p ++ n) ≡ s ++ (k ++ (d ++ (c ++ (a ++ (p ++ n)))))
paired s k d c a p n = simp append_assoc

ended : (s k d c a p n : List ℕ) → (s ++ (k ++ (d ++ (c ++ (a ++ p))))) ++ n ≡ s ++ (k ++ (d ++ (c ++ (a ++ (p ++ n)))))
ended s k d c a p n = simp append_assoc

set_shape : (k c p : List ℕ)
    → codes "set " ++ k ++ (codes " chan " ++ c) ++ (codes " at " ++ p ++ 10 ∷ [])
    ≡ (codes "set" ++ (32 ∷ (k ++ (32 ∷ (codes "chan" ++ (32 ∷ (c ++ (32 ∷ (codes "at" ++ (32 ∷ p)))))))))) ++ 10 ∷ []
set_shape k c p = paired (codes "set ") k (codes " chan ") c (codes " at ") p (10 ∷ [])
    ∙ sym (ended (codes "set ") k (codes " chan ") c (codes " at ") p (10 ∷ []))

-- a turn, of three
pub turn_is : (seed k x : ℕ) → x ≡ drawn_from seed (9 * seed + 3 * k) → turn_text (k + 1) (turn_from x) ≡ made_turn seed (k + 1)
turn_is seed k x is =
    let i : ℕ = 9 * seed + 3 * (k + 1 - 1) + 1 in
    let a : after_draw x ≡ drawn_from seed i = one_draw seed (9 * seed + 3 * k) i x is (omega arith) in
    let b : after_draw (after_draw x) ≡ drawn_from seed (i + 1) = one_draw seed i (i + 1) (after_draw x) a refl in
    let c : after_setting (after_draw x) ≡ drawn_from seed (i + 2) = two_draws seed i (i + 2) (after_draw x) a refl in
    ap₂ (λ (t : ℕ) (set : List ℕ). line (codes "go" ∷ []) ++ line (codes "tick" ∷ decimal (1 + t / 65536 % 100) ∷ []) ++ set ++ line
    (codes "frame" ∷ [])) a
    (set_shape (decimal (k + 1)) (decimal (1 + after_draw (after_draw x) / 65536 % 512))
    (decimal (after_setting (after_draw x) / 65536 % 101))
    ∙ ap₂ (λ (u v : ℕ). line (codes "set" ∷ decimal (k + 1) ∷ codes "chan" ∷ decimal (1 + u / 65536 % 512) ∷ codes "at" ∷ decimal
    (v / 65536 % 101) ∷ [])) b c)

pub after_turn_is : (seed k x : ℕ) → x ≡ drawn_from seed (9 * seed + 3 * k) → after_turn x ≡ drawn_from seed (9 * seed + 3 * (k + 1))
after_turn_is seed k x is =
    let i : ℕ = 9 * seed + 3 * k in
    two_draws seed (i + 1) (9 * seed + 3 * (k + 1)) _ (one_draw seed i (i + 1) x is refl) (omega arith)

-- texts of a row of numbers, split at one of them
range_split : (f : ℕ → List ℕ) (a k m : ℕ)
    → flat_map f (range_with_len a (k + m)) ≡ flat_map f (range_with_len a k) ++ flat_map f (range_with_len (a + k) m)
range_split f a zero m =
    let all : zero + m ≡ m = omega arith in
    let from : a ≡ a + zero = omega arith in
    ap (λ (k : ℕ). flat_map f (range_with_len a k)) all ∙ ap (λ (b : ℕ). flat_map f (range_with_len b m)) from
range_split f a (suc k) m =
    let all : suc k + m ≡ suc (k + m) = omega arith in
    let from : a + 1 + k ≡ a + suc k = omega arith in
    ap (λ (j : ℕ). flat_map f (range_with_len a j)) all
    ∙ ap (λ v. f a ++ v) (range_split f (a + 1) k m
    ∙ ap (λ (b : ℕ). flat_map f (range_with_len (a + 1) k) ++ flat_map f (range_with_len b m)) from)
    ∙ sym (append_assoc (f a) (flat_map f (range_with_len (a + 1) k)) (flat_map f (range_with_len (a + suc k) m)))

pub range_more : (f : ℕ → List ℕ) (k : ℕ) (text : List ℕ) → text ≡ f (k + 1)
    → flat_map f (range_with_len 1 k) ++ text ≡ flat_map f (range_with_len 1 (k + 1))
range_more f k text is =
    let next : k + 1 ≡ 1 + k = omega arith in
    ap (λ v. flat_map f (range_with_len 1 k) ++ v) (is ∙ ap f next ∙ sym (append-nil (f (1 + k)))) ∙ sym (range_split f 1 k 1)

pub range_around : (f : ℕ → List ℕ) (k n : ℕ) (text : List ℕ) → k < n → text ≡ f (k + 1)
    → (flat_map f (range_with_len 1 k) ++ text) ++ flat_map f (range_with_len (1 + (k + 1)) (n - (k + 1))) ≡ flat_map f (range_with_len 1 n)
range_around f k n text within is =
    let all : k + 1 + (n - (k + 1)) ≡ n = omega (arith, within) in
    ap (λ v. v ++ flat_map f (range_with_len (1 + (k + 1)) (n - (k + 1)))) (range_more f k text is)
    ∙ sym (range_split f 1 (k + 1) (n - (k + 1))) ∙ ap (λ (m : ℕ). flat_map f (range_with_len 1 m)) all
