-- Worked examples: sessions with undo. What is written for whole inputs, by computation.
use Rattle.lx_spec.proofs.Imports.{◌≡◌, ℕ, None, Some, true, false, List, [], ◌∷◌, ◌++◌, map, codes, refl, Moves, Script, Undo, output_of}
use Rattle.std.specs.Fmt.{digits}
use Rattle.lx_spec.specs.declared.UndoLine.TheVariants as asks
use Rattle.lx_spec.specs.UndoSession.{undo_line_of}
use Rattle.lx_spec.proofs.ScriptTexts.{barred, played_barred, AllGiven, row}

-- what is written with undo over the show whose dimmer 1 follows channel 1, each as lines between bars
abbrev undone_barred : List ℕ → List ℕ → List ℕ
undone_barred lines script =
    output_of (Script Undo Moves) (barred (codes "IDENT 3:0|PATCH 1 1<1@FL|" ++ lines ++ codes "|ENDDATA|" ++ script)) []

undone : AllGiven undone_barred (
    -- a rising fade that is half way is recorded as a cue, taken back and brought again; an edit made under it is taken back, while the fade
    -- stays where it is
    row (codes "CUE 1|UP 10|CHAN 1@FL")
    (codes "undo|go|tick 250|record 2|sheet 2|undo|sheet 2|redo|sheet 2|set 1 chan 1 at 0|frame|undo|frame|redo|redo")
    (codes "refused NothingToUndo|ok|ok|ok|row 2 1=127|ok|refused AbsentCue 2|ok|row 2 1=127|ok|frame 500 1|ok|frame 500 1 1=127|"
    ++ codes "ok|refused NothingToRedo") ∷
    -- keys and refused edits don't enter the history, and an edit ends what could be redone
    row (codes "CUE 1|CHAN 1@FL") (codes "go|set 9 chan 1 at 5|undo|label 1 one|undo|cue 3|redo|undo|undo")
    (codes "ok|refused AbsentCue 9|refused NothingToUndo|ok|ok|ok|refused NothingToRedo|ok|refused NothingToUndo") ∷
    -- the shows before the last sixteen edits are kept
    row (codes "CUE 1")
    (codes "label 1 a|label 1 b|label 1 c|label 1 d|label 1 e|label 1 f|label 1 g|label 1 h|label 1 i|label 1 j|label 1 k|"
    ++ codes "label 1 l|label 1 m|label 1 n|label 1 o|label 1 p|label 1 q|undo|undo|undo|undo|undo|undo|undo|undo|undo|undo|undo|"
    ++ codes "undo|undo|undo|undo|undo|undo")
    (codes "ok|ok|ok|ok|ok|ok|ok|ok|ok|ok|ok|ok|ok|ok|ok|ok|ok|ok|ok|ok|ok|ok|ok|ok|ok|ok|ok|ok|ok|ok|ok|ok|ok|"
    ++ codes "refused NothingToUndo") ∷
    [])
unfolding digits
undone = refl

-- what the three lines ask, and what asks nothing of the kind
asked : map undo_line_of (codes "Record 2.5 ONLY" ∷ codes "record 2" ∷ codes "record" ∷ codes "record 2 onlyy" ∷ codes "undo x" ∷ [])
    ≡ Some (asks.Record 2500 true) ∷ Some (asks.Record 2000 false) ∷ None ∷ None ∷ None ∷ []
asked = refl

-- in a session without undo these lines are bad
known_with_undo_alone : played_barred (codes "CUE 1") (codes "undo|redo|record 1") ≡ barred (codes "bad|bad|bad")
known_with_undo_alone = refl
