-- Texts with a piece for each element, or for each that passes a test.
use Rattle.lx_writer.proofs.Imports.{◌≡◌, ℕ, ◌+◌, ◌-◌, ◌<◌, ◌≤◌, Bool, true, false, List, [], ◌∷◌, ◌++◌, length, get_or}
use Rattle.lx_writer.proofs.Imports.{take, drop, take-append-drop, refl, sym, ap, ◌∙◌, append_assoc, append-nil, cond, arith, filter, flat_map, codes}
use Rattle.lx_writer.proofs.Imports.{decimal, slice_range, take-take, length-take-le, length-append, PatchRow, Move, at_text, patch_text, move_text}
use Rattle.lx_writer.proofs.Imports.{shifted_line}
use Rattle.std.proofs.lemmas.Grind.{flat_map-append}
use Rattle.std.proofs.lemmas.List.Elements.{filter-append}
use Rattle.std.proofs.lemmas.List.{take_more}
use Rattle.std.proofs.Math.Seq.{take-add, take-append_seam}

-- one piece more, and the pieces around it
pub pieces_more : {A : Type 0} (f : A → List ℕ) (xs : List A) (i : ℕ) (x : A) → i < length xs → x ≡ get_or xs i x
    → flat_map f (take i xs) ++ f x ≡ flat_map f (take (i + 1) xs)
pieces_more {A} f xs i x within is =
    sym (ap (flat_map f) (take_more xs i x within ∙ ap (λ (y : A). take i xs ++ y ∷ []) (sym is)) ∙ flat_map-append f (take i xs) (x ∷ [])
    ∙ ap (λ text. flat_map f (take i xs) ++ text) (append-nil (f x)))

pub pieces_around : {A : Type 0} (f : A → List ℕ) (xs : List A) (i : ℕ) (x : A) → i < length xs → x ≡ get_or xs i x
    → flat_map f xs ≡ (flat_map f (take i xs) ++ f x) ++ flat_map f (drop (i + 1) xs)
pieces_around f xs i x within is =
    ap (flat_map f) (sym (take-append-drop (i + 1) xs)) ∙ flat_map-append f (take (i + 1) xs) (drop (i + 1) xs)
    ∙ ap (λ text. text ++ flat_map f (drop (i + 1) xs)) (sym (pieces_more f xs i x within is))

-- a patch row as it is put
pub patch_is : (row : PatchRow) → ((codes "PATCH 1 " ++ decimal row.chan ++ 60 ∷ []) ++ at_text row.dimmer row.level) ++ 10 ∷ []
    ≡ patch_text row
patch_is row = ap (λ text. text ++ 10 ∷ []) (append_assoc (codes "PATCH 1 " ++ decimal row.chan) (60 ∷ []) (at_text row.dimmer row.level))

-- the pieces of those that pass, of two lists, split at a place, and one range more
kept_both : {A : Type 0} (p : A → Bool) (f : A → List ℕ) (xs ys : List A)
    → flat_map f (filter p (xs ++ ys)) ≡ flat_map f (filter p xs) ++ flat_map f (filter p ys)
kept_both p f xs ys = ap (flat_map f) (filter-append p xs ys) ∙ flat_map-append f (filter p xs) (filter p ys)

pub kept_split : {A : Type 0} (p : A → Bool) (f : A → List ℕ) (xs : List A) (from : ℕ)
    → flat_map f (filter p xs) ≡ flat_map f (filter p (take from xs)) ++ flat_map f (filter p (drop from xs))
kept_split p f xs from =
    ap (λ ys. flat_map f (filter p ys)) (sym (take-append-drop from xs)) ∙ kept_both p f (take from xs) (drop from xs)

pub kept_more : {A : Type 0} (p : A → Bool) (f : A → List ℕ) (xs : List A) (from end : ℕ) → from ≤ end
    → flat_map f (filter p (take end xs)) ≡ flat_map f (filter p (take from xs)) ++ flat_map f (filter p (slice_range xs from end))
kept_more p f xs from end before =
    let same : end ≡ from + (end - from) = omega arith in
    ap (λ n. flat_map f (filter p (take n xs))) same
    ∙ ap (λ ys. flat_map f (filter p ys)) (take-add from (end - from) xs)
    ∙ kept_both p f (take from xs) (slice_range xs from end)

-- one entry more, where it passes
pub kept_next : {A : Type 0} (p : A → Bool) (f : A → List ℕ) (xs : List A) (i : ℕ) (x : A) → i < length xs → x ≡ get_or xs i x
    → flat_map f (filter p (take (i + 1) xs)) ≡ flat_map f (filter p (take i xs)) ++ cond (p x) (f x) []
kept_next {A} p f xs i x within is =
    let one : (b : Bool) → p x ≡ b → flat_map f (filter p (x ∷ [])) ≡ cond b (f x) []
    = λ b. elim b as (λ b. p x ≡ b → flat_map f (filter p (x ∷ [])) ≡ cond b (f x) [])
    [ true ↦ (λ e. rw e (append-nil (f x))) | false ↦ (λ e. rw e refl) ] in
    ap (λ ys. flat_map f (filter p ys)) (take_more xs i x within ∙ ap (λ (y : A). take i xs ++ y ∷ []) (sym is))
    ∙ kept_both p f (take i xs) (x ∷ [])
    ∙ ap (λ text. flat_map f (filter p (take i xs)) ++ text) (one (p x) refl)

line_shifted : (move : Move) → codes "CHAN " ++ shifted_line move ≡ move_text move ++ codes "CHAN "
line_shifted move = simp append_assoc

-- the lines of moves behind the word of the first
pub lines_shifted : (moves : List Move) → codes "CHAN " ++ flat_map shifted_line moves ≡ flat_map move_text moves ++ codes "CHAN "
lines_shifted [] = refl
lines_shifted (move ∷ moves) =
    sym (append_assoc (codes "CHAN ") (shifted_line move) (flat_map shifted_line moves))
    ∙ ap (λ text. text ++ flat_map shifted_line moves) (line_shifted move)
    ∙ append_assoc (move_text move) (codes "CHAN ") (flat_map shifted_line moves)
    ∙ ap (λ text. move_text move ++ text) (lines_shifted moves)
    ∙ sym (append_assoc (move_text move) (flat_map move_text moves) (codes "CHAN "))

-- a text without the word that stands at its end
pub without_word : (end : ℕ) (text before : List ℕ) → end ≤ length text → take end text ≡ before ++ codes "CHAN " → take (end - 5) text ≡ before
without_word end text before within is =
    let size : end ≡ length before + 5 = sym (length-take-le end text within) ∙ ap length is ∙ length-append before (codes "CHAN ") in
    let short : end - 5 ≡ length before = omega arith in
    sym (take-take (end - 5) end text (omega arith)) ∙ ap (take (end - 5)) is ∙ ap (λ n. take n (before ++ codes "CHAN ")) short
    ∙ take-append_seam before (codes "CHAN ")
