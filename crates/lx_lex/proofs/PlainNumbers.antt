-- Numbers of digits alone, as they are read where they stand.
use Rattle.lx_lex.proofs.Imports.{◌≡◌, ℕ, ◌+◌, ◌-◌, ◌*◌, ◌<◌, ◌≤◌, true, List, [], ◌∷◌, ◌++◌, length, take, drop, get_or}
use Rattle.lx_lex.proofs.Imports.{refl, sym, ap, ◌∙◌, append_assoc, append-nil, arith, length-append, list_all, nat_tests, fold-append, take_all}
use Rattle.lx_lex.proofs.Imports.{list_all-append, is_digit, is_number, number_of, is_separator, begins_comment, tokens, BeginsWithDigits, EndsToken}
use Rattle.lx_lex.proofs.Imports.{FirstIsNumber}
use Rattle.lx_lex.proofs.FirstTokens.{token_first}
use Rattle.lx_lex.proofs.LineCuts.{goes}

pub no_digit_yet : (text : List ℕ) → BeginsWithDigits text 0 text
no_digit_yet text = record { digits = []; are_digits = refl; number = refl; is_text = refl }

digits_more : {text : List ℕ} {n : ℕ} (b : ℕ) (rest : List ℕ) → BeginsWithDigits text n (b ∷ rest) → is_digit b ≡ true
    → BeginsWithDigits text (10 * n + (b - 48)) rest
digits_more {text = text} b rest so digit = record {
  digits = so.digits ++ b ∷ [];
  are_digits = list_all-append is_digit so.digits (b ∷ []) ∙ rw (so.are_digits, digit) refl;
  number = fold-append _ 0 so.digits (b ∷ []) ∙ ap (λ m. 10 * m + (b - 48)) so.number;
  is_text = so.is_text ∙ sym (append_assoc so.digits (b ∷ []) rest);
}

-- the same of a digit by its place
pub digit_taken : {text : List ℕ} {n d : ℕ} (rest : List ℕ) → BeginsWithDigits text n rest → 1 ≤ length rest
    → is_digit (get_or rest 0 0) ≡ true → d ≡ get_or rest 0 0 - 48 → BeginsWithDigits text (10 * n + d) (take (length rest - 1) (drop 1 rest))
digit_taken [] so some digit is = absurd (omega arith)
digit_taken (b ∷ rest) so some digit is =
    let all : take (length (b ∷ rest) - 1) rest ≡ rest = take_all (length (b ∷ rest) - 1) rest (omega arith) in
    rw (is, all) (digits_more b rest so digit)

digits_go : (ds : List ℕ) → list_all is_digit ds ≡ true → list_all (goes is_separator begins_comment) ds ≡ true
digits_go [] all = refl
digits_go (b ∷ ds) all =
    let more : list_all is_digit ds ≡ true → list_all (goes is_separator begins_comment) ds ≡ true = digits_go ds in grind (arith, nat_tests)

filled : (ds : List ℕ) → 0 < length ds → list_all is_digit ds ≡ true → is_number ds ≡ true
filled [] some all = absurd (omega arith)
filled (b ∷ ds) some all = all

-- the digits at the front are the first token, where it ends behind them
pub number_first : {line rest others : List ℕ} {n : ℕ} → BeginsWithDigits line n rest → length rest < length line → EndsToken rest others
    → FirstIsNumber (tokens line) n (tokens others)
number_first {rest = rest} so some ends =
    let more : 0 < length so.digits = omega (arith, some, ap length so.is_text, length-append so.digits rest) in
    record {
      token = so.digits;
      is_plain = filled so.digits more so.are_digits;
      number = so.number;
      first = ap tokens so.is_text ∙ token_first more (digits_go so.digits so.are_digits) ends;
    }

-- a line of digits alone
pub digits_alone : (line : List ℕ) (n : ℕ) → is_number line ≡ true → number_of line ≡ n → FirstIsNumber (tokens line) n []
digits_alone [] n are is = cc
digits_alone (b ∷ ds) n are is = number_first {others = []}
    (record { digits = b ∷ ds; are_digits = are; number = is; is_text = sym (append-nil (b ∷ ds)) }) (omega arith)
    (record { ends = refl; same = refl })
