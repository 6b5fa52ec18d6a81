-- A number that is read where it stands, as the first of a line's tokens.
use Rattle.std.specs.Prelude.{ℕ, true, not, ◌||◌, ◌≡◌, List, ◌∷◌, ◌++◌, Ok}
use Rattle.std.specs.List.{list_all}
use Rattle.lx_spec.specs.Text.{is_separator, begins_comment, after_all, tokens}
use Rattle.lx_spec.specs.Numerals.{is_digit, is_number, number_of, read_level}

-- digits that spell the number, and then the rest
pub record BeginsWithDigits (text : List ℕ) (n : ℕ) (rest : List ℕ) : Type 0 where
  pub digits : List ℕ
  pub are_digits : list_all is_digit digits ≡ true
  pub number : number_of digits ≡ n
  pub is_text : text ≡ digits ++ rest

-- a token that is the number, and then the others
pub record FirstIsNumber (all : List (List ℕ)) (n : ℕ) (others : List (List ℕ)) : Type 0 where
  pub token : List ℕ
  pub is_plain : is_number token ≡ true
  pub number : number_of token ≡ n
  pub first : all ≡ token ∷ others

-- no byte of a token stands at the front of the rest, and it has the same tokens as the others
pub record EndsToken (rest others : List ℕ) : Type 0 where
  pub ends : after_all (λ b. not (is_separator b || begins_comment b)) rest ≡ rest
  pub same : tokens rest ≡ tokens others

-- a token that is the level, and then the others
pub record FirstIsLevel (all : List (List ℕ)) (level : ℕ) (others : List (List ℕ)) : Type 0 where
  pub token : List ℕ
  pub is_level : read_level token ≡ Ok level
  pub first : all ≡ token ∷ others
