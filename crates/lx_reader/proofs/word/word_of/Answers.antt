use Rattle.lx_reader.proofs.Imports.{◌≡◌, List, ℕ, Option, Some, None, refl, ap, sym, ◌∙◌, find, option_map, option_map_or, unwrap_or, Word, is_word}
use Rattle.lx_spec.specs.FirstWord.{spellings, dollar_word, word_of}
use Rattle.lx_lex.specs.WordTable.{looked_up}
use Rattle.lx_reader.proofs.word.word_of.Goals as goal

or_else : {A B : Type 0} (f : A → B) (o : Option A) (other : B) → option_map_or f o other ≡ unwrap_or (option_map f o) other
or_else f None other = refl
or_else f (Some x) other = refl

-- the word that the table has, or that of the dollars
word_is_found : (token : List ℕ) {found : Option Word} → looked_up spellings token ≡ found → word_of token ≡ unwrap_or found
    (dollar_word token)
word_is_found token is = or_else (λ (e : List ℕ × Word). e.1) (find (λ (e : List ℕ × Word). is_word e.0 token) spellings) (dollar_word token)
    ∙ ap (λ o. unwrap_or o (dollar_word token)) is

pub returns-in-Some : goal.returns-in-Some
returns-in-Some c = sym (word_is_found c.args.token.now (sym c.find_word.ensures ∙ c.in-Some.is))

pub returns-in-None : goal.returns-in-None
returns-in-None c = c.dollar_word.ensures ∙ sym (word_is_found c.args.token.now (sym c.find_word.ensures ∙ c.in-None.is))
