-- A word is looked up among those of as many letters.
use Rattle.lx_script.proofs.Imports.{◌≡◌, ℕ, ◌==◌, true, List, length, filter, sym, ap, ◌∙◌, option_map, str_to_ascii_uppercase}
use Rattle.lx_script.proofs.Imports.{to_ascii_uppercase, length-map, bytes_eq-Decides, eq_true, is_word, looked_up, FirstWord, first_words}
use Rattle.lx_spec.proofs.Lists.{find_in_filter}

-- a token has as many letters as the word that it is
same_length : (word token : List ℕ) → is_word word token ≡ true → length word ≡ length token
same_length word token is =
    let d = bytes_eq-Decides (str_to_ascii_uppercase token) word in
    sym (ap length (d.0 is)) ∙ length-map token to_ascii_uppercase

pub of_length : (n : ℕ) (token : List ℕ) → length token ≡ n
    → looked_up (filter (λ (e : List ℕ × FirstWord). length e.0 == n) first_words) token ≡ looked_up first_words token
of_length n token size = ap (option_map (λ (e : List ℕ × FirstWord). e.1))
    (find_in_filter (λ (e : List ℕ × FirstWord). is_word e.0 token) (λ (e : List ℕ × FirstWord). length e.0 == n) first_words
    (λ e is. eq_true (length e.0) n (same_length e.0 token is ∙ size)))
