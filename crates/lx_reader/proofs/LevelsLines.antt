-- Lines known by their first word or by their first bytes.
use Rattle.lx_reader.proofs.Imports.{◌≡◌, ◌≤◌, true, cond, List, ◌∷◌, ◌++◌, length, Err, refl, ap, sym, ◌∙◌, ℕ, codes, take, take_all, arith}
use Rattle.lx_reader.proofs.Imports.{LINE_BYTES, Move, Section, NoRecord, InCue, InGroup, InSub, Skipping, LineTooLong, Facts, Word, levels}
use Rattle.lx_reader.proofs.Imports.{entry_by_tokens, entry_by_word, entry_of, FirstIsWord, Show, tokens, lt_false, Open, OpenFits, is_open}
use Rattle.lx_reader.proofs.Imports.{is_record}
use Rattle.std.proofs.Common.{◌-◌, drop, eqb, length-drop}
use Rattle.std.proofs.lemmas.Bool.Decides.{Decides-eqb}
use Rattle.std.proofs.lemmas.Slice.Eq.{starts_is}
use Rattle.std.specs.List.{starts_with}
use Rattle.lx_lex.proofs.FirstTokens.{token_first}
use Rattle.lx_lex.proofs.LineCuts.{tokens_by-separator}
use Rattle.lx_lex.proofs.Separators.{apart}
use Rattle.lx_spec.specs.Text.{begins_comment, is_separator}
use Rattle.lx_spec.specs.declared.Word.TheVariants as words
use Rattle.lx_reader.specs.declared.open_record.Open.TheVariants as open_records

-- the open record's section is a record's
pub inside_record : (show : Show) (section : Section) (moves : List Move) (o : Open) → OpenFits show section moves o → is_open o ≡ true
    → is_record section ≡ true
inside_record show section moves open_records.None fits is = cc
inside_record show section moves (open_records.Cue cue) fits is = ap is_record fits.0
inside_record show section moves (open_records.Group group) fits is = ap is_record fits.0
inside_record show section moves (open_records.Sub sub) fits is = ap is_record fits.0

levels_in_record : (facts : Facts) (line : List ℕ) (rest : List (List ℕ)) (section : Section) → is_record section ≡ true
    → entry_by_word (record facts { identified = true; section = section }) line words.Chan rest ≡ levels facts.limits facts.number rest
levels_in_record facts line rest NoRecord is = cc
levels_in_record facts line rest Skipping is = cc
levels_in_record facts line rest (InCue n) is = refl
levels_in_record facts line rest (InGroup g) is = refl
levels_in_record facts line rest (InSub s) is = refl

-- what a line says goes by its first word
pub entry_by_first : (facts : Facts) (line : List ℕ) (word : Word) (rest : List (List ℕ)) → length line ≤ LINE_BYTES
    → FirstIsWord (tokens line) word rest → entry_of facts line ≡ entry_by_word facts line word rest
entry_by_first facts line word rest short first =
    ap (λ b. cond b (Err (LineTooLong facts.number)) (entry_by_tokens facts line (tokens line))) (lt_false LINE_BYTES (length line) short)
    ∙ ap (entry_by_tokens facts line) first.first
    ∙ ap (λ w. entry_by_word facts line w rest) first.is_word

pub levels_entry : (facts : Facts) (line : List ℕ) (rest : List (List ℕ)) → length line ≤ LINE_BYTES → tokens line ≡ codes "CHAN" ∷ rest
    → facts.identified ≡ true → is_record facts.section ≡ true → entry_of facts line ≡ levels facts.limits facts.number rest
levels_entry facts line rest short cut identified inside =
    entry_by_first facts line words.Chan rest short (record { token = codes "CHAN"; is_word = refl; first = cut })
    ∙ (λ j. entry_by_word (record facts { identified = identified j }) line words.Chan rest)
    ∙ levels_in_record facts line rest facts.section inside

rows_cut : (rest : List ℕ) → tokens (codes "PATCH " ++ rest) ≡ codes "PATCH" ∷ tokens rest
rows_cut rest = token_first {token = codes "PATCH"} {rest = 32 ∷ rest} {others = rest} (omega arith) refl
    (record { ends = refl; same = tokens_by-separator is_separator begins_comment apart 32 rest refl })

-- a line that begins with PATCH and a space
pub rows_tokens : (line : List ℕ) → starts_with eqb line (codes "PATCH ") ≡ true
    → tokens line ≡ codes "PATCH" ∷ tokens (take (length line - 6) (drop 6 line))
rows_tokens line begins =
    let is : line ≡ codes "PATCH " ++ drop 6 line
    = (starts_is Decides-eqb line (codes "PATCH ") (starts_with eqb line (codes "PATCH ")) refl).0 begins in
    ap tokens is
    ∙ rows_cut (drop 6 line)
    ∙ ap (λ xs. codes "PATCH" ∷ tokens xs) (sym (take_all (length line - 6) (drop 6 line) (rw length-drop (omega arith))))
