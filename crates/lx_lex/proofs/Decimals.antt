-- The digits and decimals of a number, written from left to right.
use Rattle.lx_lex.proofs.Imports.{◌≡◌, ◌≢◌, ◌⊎◌, inl, inr, ℕ, zero, suc, ◌+◌, ◌-◌, ◌*◌, ◌/◌, ◌%◌, ◌<◌, ◌≤◌}
use Rattle.lx_lex.proofs.Imports.{List, [], ◌∷◌, ◌++◌, length, take, set, refl, sym, ap, ◌∙◌, append-nil, append_assoc, decimal, arith, mod-lt}
use Rattle.lx_lex.proofs.Imports.{ne_eqb, take_more_set, length_one, length_two, length_pair, decimals_of}
use Rattle.lx_lex.specs.Texts.{decimals_text}

pub length_three : (n : ℕ) → 100 ≤ n → n < 1000 → length (decimal n) ≡ 3
length_three n least most = omega (arith, length_pair n least (omega arith), length_one (n / 100) (omega arith))

pub length_four : (n : ℕ) → 1000 ≤ n → n < 10000 → length (decimal n) ≡ 4
length_four n least most =
    omega (arith, length_pair n (omega arith) (omega arith), length_two (n / 100) (omega arith) (omega arith))

pub ruleset digit_counts = (length_one, length_two, length_three, length_four)

decimals_of-next : (k unit rest : ℕ) → 0 < k → rest ≢ 0
    → decimals_of k unit rest ≡ (48 + 10 * rest / unit) ∷ decimals_of (k - 1) unit (10 * rest % unit)
decimals_of-next zero unit rest some ne = absurd (omega (arith, some))
decimals_of-next (suc k) unit rest some ne =
    let less : suc k - 1 ≡ k = omega arith in
    rw (ne_eqb rest 0 ne, less) refl

decimals_of-zero : (k unit : ℕ) → decimals_of k unit 0 ≡ []
decimals_of-zero zero unit = refl
decimals_of-zero (suc k) unit = refl

pub decimals_text-some : (unit rest : ℕ) → rest ≢ 0 → decimals_text unit rest ≡ 46 ∷ decimals_of 3 unit rest
decimals_text-some unit rest ne = rw (ne_eqb rest 0 ne) refl

-- up to `end` a part of all was written, and the decimals of the rest are missing, which end at `last` at most
pub record Written (text : List ℕ) (end last unit rest : ℕ) (all : List ℕ) : Type 0 where
  pub within : end ≤ last
  pub small : rest < unit
  pub is_all : take end text ++ decimals_of (last - end) unit rest ≡ all

pub begun : (text : List ℕ) (at unit rest : ℕ) → at < length text → rest < unit
    → Written (set text at 46) (at + 1) (at + 4) unit rest (take at text ++ 46 ∷ decimals_of 3 unit rest)
begun text at unit rest inside small =
    let three : at + 4 - (at + 1) ≡ 3 = omega arith in
    record {
      within = omega arith;
      small = small;
      is_all = rw (three, take_more_set text at 46 inside, append_assoc) refl;
    }

pub goes_on : (text : List ℕ) (end last unit rest : ℕ) (all : List ℕ) → Written text end last unit rest all → last ≤ length text → rest ≢ 0
    → end < last → Written (set text end (48 + 10 * rest / unit)) (end + 1) last unit (10 * rest % unit) all
goes_on text end last unit rest all w size ne lt = record {
  within = omega arith;
  small = mod-lt (10 * rest) (omega (arith, w.small));
  is_all =
      let digit : ℕ = 48 + 10 * rest / unit in
      let next : ℕ = 10 * rest % unit in
      let missing : decimals_of (last - end) unit rest ≡ digit ∷ decimals_of (last - end - 1) unit next =
      decimals_of-next (last - end) unit rest (omega arith) ne in
      let fewer : last - (end + 1) ≡ last - end - 1 = omega arith in
      rw (fewer, take_more_set text end digit (omega (arith, size)), append_assoc, ← missing) w.is_all;
}

pub ended : (text : List ℕ) (end last unit rest : ℕ) (all : List ℕ) → Written text end last unit rest all → (rest ≡ 0) ⊎ (last ≤ end)
    → take end text ≡ all
ended text end last unit rest all w (inl none) =
    sym (append-nil (take end text))
    ∙ ap (λ v. take end text ++ v) (sym (ap (decimals_of (last - end) unit) none ∙ decimals_of-zero (last - end) unit)) ∙ w.is_all
ended text end last unit rest all w (inr full) =
    let none : last - end ≡ 0 = omega arith in
    sym (append-nil (take end text)) ∙ ap (λ k. take end text ++ decimals_of k unit rest) (sym none) ∙ w.is_all
