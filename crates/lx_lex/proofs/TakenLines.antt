-- Lines that were taken one after another: how a loop over `advance` begins, goes on and ends.
use Rattle.lx_lex.proofs.Imports.{◌≡◌, ◌⊎◌, inl, inr, ℕ, ◌+◌, ◌<◌, ◌≤◌, Bool, true, false, List, [], ◌∷◌, ◌++◌, length}
use Rattle.lx_lex.proofs.Imports.{map, Some, None, IfSome, refl, sym, ap, ◌∙◌, subst, append-nil, append_assoc, length-append, arith, ◌==◌, Option}
use Rattle.lx_lex.proofs.Imports.{IsAtEnd, Consumes-trans, map-append, INPUT_BYTES, HasNoFeed, feeds, first_lines, cut_lines, without_cr, lines_of}
use Rattle.lx_lex.proofs.Imports.{InputTooLong, feed_of, LineBetween, LinesBetween, StepOf}
use Rattle.lx_lex.proofs.Feeds.{feeds-none, count_by-append, append_none}
use Rattle.lx_lex.proofs.FirstLines.{cut_lines-feed, cut_lines-last, first_lines-none, first_lines-feed, first_lines-last}
use Rattle.lx_lex.proofs.FirstLines.{first_lines-front, first_lines-more, first_lines-longer}

-- what is known of lines that were taken where the source tells its bytes
abbrev Known : Option (List ℕ) → Option (List ℕ) → (bytes : List ℕ) → (raws : List (List ℕ)) → Type 0
Known None b bytes raws = Unit {0}
Known (Some xs) None bytes raws = ⊥
Known (Some xs) (Some ys) bytes raws =
    (xs ≡ bytes ++ ys) × ((bytes ≡ first_lines (length raws) xs) × ((cut_lines xs ≡ raws ++ cut_lines ys)
    × ((feeds bytes ≡ length raws) ⊎ (ys ≡ []))))

of_known : (a b : Option (List ℕ)) (bytes : List ℕ) {raws : List (List ℕ)} {i j : ℕ} → Known a b bytes raws → j ≡ i + length bytes
    → i + length raws ≤ j → j ≤ INPUT_BYTES → LinesBetween a b i j raws
of_known None b bytes known count some within =
    record { bytes = bytes; took = tt; count = count; some = some; within = within; front = tt; lines = tt; fed = tt }
of_known (Some xs) None bytes known count some within = absurd known
of_known (Some xs) (Some ys) bytes known count some within = record {
  bytes = bytes;
  took = known.0;
  count = count;
  some = some;
  within = within;
  front = known.1.0;
  lines = known.1.1.0;
  fed = known.1.1.1;
}

-- no line was taken yet
none_known : (a : Option (List ℕ)) → Known a a [] []
none_known None = tt
none_known (Some xs) = (refl, (sym (first_lines-none xs), (refl, inl refl)))

pub no_line : (a : Option (List ℕ)) (i : ℕ) → i ≤ INPUT_BYTES → LinesBetween a a i i []
no_line a i within = of_known a a [] (none_known a) (omega arith) (omega arith) within

-- bytes of which each line has its LF, or behind which nothing is left, and then others
pub fed_then : (xs ys y z : List ℕ) (m n k : ℕ) → k ≡ m + n → (feeds xs ≡ m) ⊎ (y ≡ []) → (feeds ys ≡ n) ⊎ (z ≡ []) → y ≡ ys ++ z
    → (feeds (xs ++ ys) ≡ k) ⊎ (z ≡ [])
fed_then xs ys y z m n k e p (inr none) took = inr none
fed_then xs ys y z m n k e (inl p) (inl q) took = inl (omega (arith, e, p, q, count_by-append (λ b. b == 10) xs ys))
fed_then xs ys y z m n k e (inr none) (inl q) took = inr (append_none ys z (sym took ∙ none))

-- first these lines, and then those
then_known : (a b c : Option (List ℕ)) {i j k : ℕ} {raws raws' : List (List ℕ)} (p : LinesBetween a b i j raws) (q : LinesBetween b c j k raws')
    → Known a c (p.bytes ++ q.bytes) (raws ++ raws')
then_known None b c p q = tt
then_known (Some x) None c p q = absurd p.took
then_known (Some x) (Some y) None p q = absurd q.took
then_known (Some x) (Some y) (Some z) {raws = raws} {raws' = raws'} p q =
    let mine : p.bytes ≡ first_lines (length raws) (p.bytes ++ y) = p.front ∙ ap (first_lines (length raws)) p.took in
    let both = first_lines-more (length raws) (length raws') p.bytes y mine in
    let front : p.bytes ++ q.bytes ≡ first_lines (length (raws ++ raws')) x =
    ap (λ v. p.bytes ++ v) q.front ∙ sym both ∙ ap (first_lines (length raws + length raws')) (sym p.took)
    ∙ ap (λ n. first_lines n x) (sym (length-append raws raws')) in (
      Consumes-trans (Some x) (Some y) (Some z) p.bytes q.bytes p.took q.took,
      (
        front,
        (
          p.lines ∙ ap (λ v. raws ++ v) q.lines ∙ sym (append_assoc raws raws' (cut_lines z)),
          fed_then p.bytes q.bytes y z (length raws) (length raws') (length (raws ++ raws')) (length-append raws raws') p.fed q.fed q.took,
        ),
      ),
    )

pub then_lines : (a b c : Option (List ℕ)) {i j k : ℕ} {raws raws' : List (List ℕ)} → LinesBetween a b i j raws → LinesBetween b c j k raws'
    → LinesBetween a c i k (raws ++ raws')
then_lines a b c {raws = raws} {raws' = raws'} p q = of_known a c (p.bytes ++ q.bytes) (then_known a b c p q)
    (omega (arith, p.count, q.count, length-append p.bytes q.bytes)) (omega (arith, p.some, q.some, length-append raws raws')) q.within

-- a known line that was taken is the first
first_known : (xs ys raw : List ℕ) (fed : Bool) → HasNoFeed raw → xs ≡ (raw ++ feed_of fed) ++ ys
    → (fed ≡ true) ⊎ ((ys ≡ []) × (0 < length raw)) → Known (Some xs) (Some ys) (raw ++ feed_of fed) (raw ∷ [])
first_known xs ys raw true none e ended =
    let one : feeds (raw ++ 10 ∷ []) ≡ 1 = omega (arith, count_by-append (λ b. b == 10) raw (10 ∷ []), feeds-none raw none) in
    let lines = ap cut_lines (e ∙ append_assoc raw (10 ∷ []) ys) ∙ cut_lines-feed raw ys none in
    (e, (first_lines-feed raw ys none ∙ ap (first_lines 1) (sym e), (lines, inl one)))
first_known xs ys [] false none e ended = elim ended [ inl odd ↦ cc | inr end ↦ absurd (omega (arith, end.1)) ]
first_known xs ys (b ∷ raw) false none e ended = elim ended [
  | inl odd ↦ cc
  | inr end ↦
      let all : xs ≡ b ∷ raw = e ∙ ap (λ v. ((b ∷ raw) ++ []) ++ v) end.0 ∙ append-nil ((b ∷ raw) ++ []) ∙ append-nil (b ∷ raw) in
      let front = append-nil (b ∷ raw) ∙ first_lines-last (b ∷ raw) none ∙ ap (first_lines 1) (sym all) in
      (e, (front, (ap cut_lines all ∙ cut_lines-last b raw none ∙ ap (λ v. (b ∷ raw) ∷ cut_lines v) (sym end.0), inr end.0)))
]

-- one line that was handed out
one_known : (a b : Option (List ℕ)) {i j : ℕ} {raw : List ℕ} (t : LineBetween a b i j raw) → Known a b (raw ++ feed_of t.fed) (raw ∷ [])
one_known None b t = tt
one_known (Some x) None t = absurd t.took.bytes
one_known (Some x) (Some y) {raw = raw} t = first_known x y raw t.fed t.took.no_feed t.took.bytes t.ended

pub one_line : (a b : Option (List ℕ)) {i j : ℕ} {raw : List ℕ} → LineBetween a b i j raw → LinesBetween a b i j (raw ∷ [])
one_line a b {raw = raw} t =
    let some : 1 ≤ length raw + length (feed_of t.fed) =
    elim t.ended [ inl is ↦ rw is (omega arith) | inr end ↦ omega (arith, end.1) ] in
    of_known a b (raw ++ feed_of t.fed) (one_known a b t) (omega (arith, t.took.count, length-append raw (feed_of t.fed)))
    (omega (arith, t.took.count, some)) t.within

-- the bytes of each of them are within the limit of the input
pub lines_within : (a b : Option (List ℕ)) (i j : ℕ) (raws : List (List ℕ)) (n : ℕ) → LinesBetween a b i j raws → n ≤ length raws
    → IfSome a (λ xs. i + length (first_lines n xs) ≤ INPUT_BYTES)
lines_within None b i j raws n p le = tt
lines_within (Some x) b i j raws n p le = omega (arith, first_lines-longer n (length raws) x le, ap length p.front, p.count, p.within)

-- the next line isn't
pub next_too_long : (a b c : Option (List ℕ)) (i j k : ℕ) (raws : List (List ℕ)) (line : List ℕ) (n : ℕ)
    → LinesBetween a b i j raws → StepOf InputTooLong b c j k line → n ≡ length raws + 1
    → IfSome a (λ xs. INPUT_BYTES < i + length (first_lines n xs))
next_too_long None b c i j k raws line n p s e = tt
next_too_long (Some x) None c i j k raws line n p s e = absurd p.took
next_too_long (Some x) (Some y) None i j k raws line n p s e = absurd s.2.bytes
next_too_long (Some x) (Some y) (Some z) i j k raws line n p s e =
    let mine : p.bytes ≡ first_lines (length raws) (p.bytes ++ y) = p.front ∙ ap (first_lines (length raws)) p.took in
    let both : first_lines n x ≡ p.bytes ++ first_lines 1 y = ap (λ m. first_lines m x) e ∙ ap (first_lines (length raws + 1)) p.took
    ∙ first_lines-more (length raws) 1 p.bytes y mine in
    let next : length (s.0 ++ feed_of s.1) ≤ length (first_lines 1 y) =
    subst (λ v. length (s.0 ++ feed_of s.1) ≤ length (first_lines 1 v)) (sym s.2.bytes) (first_lines-front s.0 z s.1 s.2.no_feed) in
    omega (arith, ap length both, length-append p.bytes (first_lines 1 y), length-append s.0 (feed_of s.1), next, p.count, s.2.count, s.3)

-- the texts of these lines, and those of the lines that are left
pub texts : (a b : Option (List ℕ)) (i j : ℕ) (raws : List (List ℕ)) → LinesBetween a b i j raws
    → IfSome a (λ xs. IfSome b (λ ys. lines_of xs ≡ map without_cr raws ++ lines_of ys))
texts None b i j raws p = tt
texts (Some x) None i j raws p = tt
texts (Some x) (Some y) i j raws p = ap (map without_cr) p.lines ∙ map-append without_cr raws (cut_lines y)

-- where nothing is left, the texts of all lines
pub all_texts : (a b : Option (List ℕ)) (i j : ℕ) (raws : List (List ℕ)) → LinesBetween a b i j raws → IsAtEnd b
    → IfSome a (λ xs. lines_of xs ≡ map without_cr raws)
all_texts None b i j raws p e = tt
all_texts (Some x) None i j raws p e = absurd p.took
all_texts (Some x) (Some y) i j raws p e = ap (map without_cr) (p.lines ∙ ap (λ v. raws ++ cut_lines v) e ∙ append-nil raws)
