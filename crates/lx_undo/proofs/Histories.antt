-- Lists of shows with one at an end, and the laws of undo and redo.
use Rattle.lx_undo.proofs.Imports.{◌≡◌, ℕ, suc, ◌-◌, ◌≤◌, Bool, true, List, [], ◌∷◌, ◌++◌, length, take, drop, Some, None, Ok, Err}
use Rattle.lx_undo.proofs.Imports.{refl, ◌∙◌, sym, ap, subst, arith, length-append, Option, Result, slice_get, option_map_or, IsOkAnd, Command}
use Rattle.lx_undo.proofs.Imports.{Edit, UndoFault, NothingToUndo, NothingToRedo, Show, Desk, step, is_edit, UndoState, last_of, replaced, with_show, undo_step}
use Rattle.lx_undo.proofs.Imports.{record_step, back_to, forth_to, undo, redo}
use Rattle.std.proofs.lemmas.List.{drop-append-le}
use Rattle.lx_spec.specs.declared.Command.TheVariants as commands
use Rattle.lx_spec.specs.EditedShow.{edited}
use Rattle.lx_spec.specs.RecordedLevels.{recorded}
use Rattle.lx_spec.proofs.EditedCues.{bind_ok, ok_is}
use Rattle.lx_spec.proofs.Lists.{none_differs}
use Rattle.lx_session.proofs.EachLine.{but_last}
use Rattle.lx_undo.specs.Laws.{LawOfUndo}

slice_get-last : {A : Type 0} (xs : List A) (x : A) → slice_get (xs ++ x ∷ []) (length xs) ≡ Some x
slice_get-last [] x = refl
slice_get-last (y ∷ ys) x = slice_get-last ys x

-- the last of a list that ends in x
pub last_is : {A : Type 0} (xs : List A) (x : A) → slice_get (xs ++ x ∷ []) (length (xs ++ x ∷ []) - 1) ≡ Some x
last_is xs x =
    let at : length (xs ++ x ∷ []) - 1 ≡ length xs = omega (arith, length-append xs (x ∷ [])) in
    ap (slice_get (xs ++ x ∷ [])) at ∙ slice_get-last xs x

-- of a list that ends in x the last ones end in x
kept_end : {A : Type 0} (n : ℕ) (xs : List A) (x : A) → 1 ≤ n
    → last_of n (xs ++ x ∷ []) ≡ drop (length (xs ++ x ∷ []) - n) xs ++ x ∷ []
kept_end n xs x least = drop-append-le (length (xs ++ x ∷ []) - n) xs (x ∷ []) (omega (arith, length-append xs (x ∷ [])))

-- a list with a last entry is those before it, and it
pub with_last : {A : Type 0} (xs : List A) (x : A) → slice_get xs (length xs - 1) ≡ Some x → take (length xs - 1) xs ++ x ∷ [] ≡ xs
with_last [] x is = absurd (none_differs x is)
with_last (y ∷ []) x is = let same : x ≡ y = cc in ap (λ z. z ∷ []) same
with_last {A} (y ∷ z ∷ zs) x is =
    let next : length (y ∷ z ∷ zs) - 1 ≡ suc (length (z ∷ zs) - 1) = omega arith in
    let there : slice_get (z ∷ zs) (length (z ∷ zs) - 1) ≡ Some x = sym (ap (slice_get (y ∷ z ∷ zs)) next) ∙ is in
    ap (λ (k : ℕ). take k (y ∷ z ∷ zs) ++ x ∷ []) next ∙ ap (λ (ws : List A). y ∷ ws) (with_last (z ∷ zs) x there)

-- a list with a first entry is it, and those after it
pub with_first : {A : Type 0} (xs : List A) (x : A) → slice_get xs 0 ≡ Some x → x ∷ drop 1 xs ≡ xs
with_first [] x is = absurd (none_differs x is)
with_first (y ∷ ys) x is = let same : x ≡ y = cc in ap (λ z. z ∷ ys) same

-- after the show was replaced, undo gives the one before
undo_replaced : (s : UndoState) (d : Desk) → 1 ≤ s.depth
    → undo (replaced s d) ≡ Ok (back_to (replaced s d) s.desk.show)
undo_replaced s d least =
    let shows : List Show = s.back ++ s.desk.show ∷ [] in
    let end : last_of s.depth shows ≡ drop (length shows - s.depth) s.back ++ s.desk.show ∷ [] =
    kept_end s.depth s.back s.desk.show least in
    let last : slice_get (last_of s.depth shows) (length (last_of s.depth shows) - 1) ≡ Some s.desk.show =
    ap (λ (xs : List Show). slice_get xs (length xs - 1)) end ∙ last_is (drop (length shows - s.depth) s.back) s.desk.show in
    ap (λ (o : Option Show). option_map_or (λ show. Ok (back_to (replaced s d) show)) o (Err NothingToUndo)) last

ok_and : (r : Result UndoState UndoFault) (u : UndoState) (d : Desk) → r ≡ Ok u → u.desk ≡ d → IsOkAnd r (λ before. before.desk ≡ d)
ok_and r u d is same = subst (λ (q : Result UndoState UndoFault). IsOkAnd q (λ before. before.desk ≡ d)) (sym is) same

undone_edit : (s next : UndoState) (edit : Edit) → 1 ≤ s.depth → undo_step s (commands.Edit edit) ≡ Ok next
    → IsOkAnd (undo next) (λ before. before.desk ≡ s.desk)
undone_edit s next edit least is =
    let a = bind_ok (step s.desk (commands.Edit edit)) _ next is in
    let b = bind_ok (edited s.desk.show edit) _ a.0 a.1 in
    let to : with_show s.desk b.0 ≡ a.0 = ok_is _ a.0 b.2 in
    let after : replaced s (with_show s.desk b.0) ≡ next = ap (replaced s) to ∙ ok_is _ next a.2 in
    subst (λ (u : UndoState). IsOkAnd (undo u) (λ before. before.desk ≡ s.desk)) after
    (ok_and _ _ s.desk (undo_replaced s (with_show s.desk b.0) least) refl)

edit_undone : (s next : UndoState) (command : Command) → 1 ≤ s.depth → is_edit command ≡ true → undo_step s command ≡ Ok next
    → IsOkAnd (undo next) (λ before. before.desk ≡ s.desk)
edit_undone s next (commands.Edit edit) least test is = undone_edit s next edit least is
edit_undone s next (commands.Key key) least test is = cc
edit_undone s next commands.Tick least test is = cc

record_undone : (s next : UndoState) (n : ℕ) (only : Bool) → 1 ≤ s.depth → record_step s n only ≡ Ok next
    → IsOkAnd (undo next) (λ before. before.desk ≡ s.desk)
record_undone s next n only least is =
    let a = bind_ok (recorded s.desk n only) _ next is in
    subst (λ (u : UndoState). IsOkAnd (undo u) (λ before. before.desk ≡ s.desk)) (ok_is _ next a.2)
    (ok_and _ _ s.desk (undo_replaced s (with_show s.desk a.0) least) refl)

redone_by : (s before : UndoState) (o : Option Show) → slice_get s.back (length s.back - 1) ≡ o
    → option_map_or (λ show. Ok (back_to s show)) o (Err NothingToUndo) ≡ Ok before → redo before ≡ Ok s
redone_by s before None last is = cc
redone_by s before (Some show) last is =
    subst (λ (u : UndoState). redo u ≡ Ok s) (ok_is _ before is)
    (ap (λ (shows : List Show). Ok (record s { back = shows })) (with_last s.back show last))

undone_by : (s next : UndoState) (o : Option Show) → slice_get s.forth 0 ≡ o
    → option_map_or (λ show. Ok (forth_to s show)) o (Err NothingToRedo) ≡ Ok next → undo next ≡ Ok s
undone_by s next None first is = cc
undone_by s next (Some show) first is =
    let u : UndoState = forth_to s show in
    let last : slice_get u.back (length u.back - 1) ≡ Some s.desk.show = last_is s.back s.desk.show in
    subst (λ (v : UndoState). undo v ≡ Ok s) (ok_is _ next is)
    (ap (λ (o : Option Show). option_map_or (λ shown. Ok (back_to u shown)) o (Err NothingToUndo)) last
    ∙ ap (λ (shows : List Show). Ok (record s { back = shows; forth = show ∷ drop 1 s.forth })) (but_last s.back s.desk.show)
    ∙ ap (λ (shows : List Show). Ok (record s { forth = shows })) (with_first s.forth show first))

pub law_of_undo : LawOfUndo
law_of_undo = record {
  edit = edit_undone;
  records = record_undone;
  redone = λ s before is. redone_by s before (slice_get s.back (length s.back - 1)) refl is;
  undone = λ s next is. undone_by s next (slice_get s.forth 0) refl is;
}
