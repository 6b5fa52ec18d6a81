-- The row line and the line of a cue as they are put, and the cue at a place of a show.
use Rattle.std.proofs.Common.{◌≡◌, ℕ, zero, suc, ◌+◌, ◌<◌, Bool, cond, List, [], ◌∷◌, ◌++◌, length, get_or, take, drop, take-append-drop}
use Rattle.std.proofs.Common.{Some, refl, ◌∙◌, sym, ap, arith, append_assoc, append-nil}
use Rattle.std.specs.Prelude.{flat_map, codes, decimal}
use Rattle.std.proofs.lemmas.Grind.{flat_map-append}
use Rattle.std.proofs.lemmas.List.{take_more}
use Rattle.std.proofs.lemmas.List.Elements.{All-from_recursion}
use Rattle.lx_spec.specs.SortedList.{IsStrictlySorted, entry_at}
use Rattle.lx_spec.specs.Show.{Cue}
use Rattle.lx_spec.specs.ShowText.{cue_number_text}
use Rattle.lx_spec.specs.Replies.{cells, row_text}
use Rattle.lx_spec.specs.SheetOutput.{kind_word, label_word, cue_line}
use Rattle.lx_script.proofs.Texts.{spaced_more}
use Rattle.lx_report.specs.CueLine.{label_behind}
use Rattle.lx_spec.proofs.Comparisons.{eq_below, eq_true}

pub row_is : (n : ℕ) (row : List ℕ) → row_text n row
    ≡ codes "row " ++ (cue_number_text n ++ (flat_map (λ word. 32 ∷ word) (cells row) ++ 10 ∷ []))
row_is n row =
    ap (λ text. text ++ 10 ∷ []) (spaced_more (codes "row") (cue_number_text n ∷ cells row))
    ∙ ap (λ text. codes "row " ++ text) (append_assoc (cue_number_text n) (flat_map (λ word. 32 ∷ word) (cells row)) (10 ∷ []))

behind_label : (label : List ℕ) → flat_map (λ word. 32 ∷ word) (label_word label) ≡ label_behind label
behind_label [] = refl
behind_label (b ∷ bs) = append-nil (32 ∷ b ∷ bs)

line_shape : (n k p m l : List ℕ) → (codes "cue" ++ (32 ∷ n ++ (32 ∷ k ++ (32 ∷ p ++ (32 ∷ m ++ l))))) ++ 10 ∷ []
    ≡ (codes "cue " ++ (n ++ 32 ∷ k)) ++ ((32 ∷ p ++ 32 ∷ m) ++ (l ++ 10 ∷ []))
line_shape n k p m l = simp append_assoc

-- the words of a cue, its counts, its label, and the end of the line
pub line_is : (cue : Cue) → cue_line cue
    ≡ (codes "cue " ++ (cue_number_text cue.number ++ 32 ∷ kind_word cue.block)) ++
    ((32 ∷ decimal (length cue.parts) ++ 32 ∷ decimal (length cue.moves)) ++ (label_behind cue.label ++ 10 ∷ []))
line_is cue =
    ap (λ text. text ++ 10 ∷ []) (spaced_more (codes "cue")
    (cue_number_text cue.number ∷ kind_word cue.block ∷ decimal (length cue.parts) ∷ decimal (length cue.moves) ∷ label_word cue.label))
    ∙ ap (λ text. (codes "cue" ++ (32 ∷ cue_number_text cue.number ++
    (32 ∷ kind_word cue.block ++ (32 ∷ decimal (length cue.parts) ++ (32 ∷ decimal (length cue.moves) ++ text))))) ++ 10 ∷ [])
    (behind_label cue.label)
    ∙ line_shape (cue_number_text cue.number) (kind_word cue.block) (decimal (length cue.parts)) (decimal (length cue.moves))
    (label_behind cue.label)

-- the entry at a place of a sorted list is the entry of its number
pub entry_there : {A : Type 0} (key : A → ℕ) (xs : List A) (k : ℕ) (x : A) → IsStrictlySorted key xs → k < length xs → x ≡ get_or xs k x
    → entry_at key (key x) xs ≡ Some x
entry_there key [] k x sorted within is = absurd (omega arith)
entry_there {A} key (y ∷ ys) zero x sorted within is =
    ap (λ (b : Bool). cond b (Some y) (entry_at key (key x) ys)) (eq_true (key y) (key x) (ap key (sym is))) ∙ ap Some (sym is)
entry_there {A} key (y ∷ ys) (suc k) x sorted within is =
    let above : key y < key (get_or ys k x) = All-from_recursion (λ z. key y < key z) ys sorted.0 k x (omega arith) in
    ap (λ (b : Bool). cond b (Some y) (entry_at key (key x) ys)) (eq_below (key y) (key x) (omega (arith, above, ap key is)))
    ∙ entry_there key ys k x sorted.1 (omega arith) is

-- one piece more of a list of pieces, and the list around it
pub pieces_more : {A : Type 0} (f : A → List ℕ) (xs : List A) (i : ℕ) (x : A) → i < length xs → x ≡ get_or xs i x
    → flat_map f (take i xs) ++ f x ≡ flat_map f (take (i + 1) xs)
pieces_more {A} f xs i x within is =
    sym (ap (flat_map f) (take_more xs i x within ∙ ap (λ (y : A). take i xs ++ y ∷ []) (sym is)) ∙ flat_map-append f (take i xs) (x ∷ [])
    ∙ ap (λ text. flat_map f (take i xs) ++ text) (append-nil (f x)))

pub pieces_around : {A : Type 0} (f : A → List ℕ) (xs : List A) (i : ℕ) (x : A) → i < length xs → x ≡ get_or xs i x
    → flat_map f xs ≡ (flat_map f (take i xs) ++ f x) ++ flat_map f (drop (i + 1) xs)
pieces_around f xs i x within is =
    ap (flat_map f) (sym (take-append-drop (i + 1) xs)) ∙ flat_map-append f (take (i + 1) xs) (drop (i + 1) xs)
    ∙ ap (λ text. text ++ flat_map f (drop (i + 1) xs)) (sym (pieces_more f xs i x within is))
