-- The rows of the table of ready ends of lines.
use Rattle.lx_writer.proofs.Imports.{◌≡◌, ℕ, ◌<◌, List, [], ◌∷◌, ◌++◌, get_or, map, take, refl, ap, ◌∙◌, arith, codes, level_text}
use Rattle.std.specs.List.{range_with_len}
use Rattle.std.proofs.lemmas.List.FromFn.{get_or-map-range_with_len}
use Rattle.lx_writer.specs.declared.rows.TheConstants.{LEVELS}

abbrev level_words : ℕ → List (List ℕ)
level_words l = (64 ∷ (level_text l ++ codes "\nCHA")) ∷ codes "N       " ∷ []

levels_are : LEVELS ≡ map level_words (range_with_len 0 256)
levels_are = refl

pub level_row : (l : ℕ) (d : List (List ℕ)) → l < 256
    → take 10 (get_or (get_or LEVELS l d) 0 [] ++ get_or (get_or LEVELS l d) 1 []) ≡ 64 ∷ (level_text l ++ codes "\nCHAN ")
level_row l d lt =
    let row : get_or LEVELS l d ≡ level_words l
    = ap (λ rows. get_or rows l d) levels_are ∙ get_or-map-range_with_len level_words 0 256 l l d lt (omega arith) in
    ap (λ (words : List (List ℕ)). take 10 (get_or words 0 [] ++ get_or words 1 [])) row
