-- A show file as a desk might write it: what it means as moves and as looks, whole and cut short, by computation.
use Rattle.lx_spec.proofs.Imports.{◌≡◌, ℕ, List, [], ◌∷◌, ◌++◌, ◌==◌, map, flat_map, if◌then◌else◌, refl, codes, Moves, States, check_output}
use Rattle.lx_spec.proofs.Imports.{Render, script_output}
use Rattle.std.specs.Fmt.{digits}
use Rattle.lx_spec.proofs.ScriptTexts.{barred}

-- the file up to its last cue, without its end, and whole, each as lines between bars
abbrev front : List ℕ
front =
    codes "IDENT 3:0|MANUFACTURER EXAMPLE|CONSOLE DESK|CLEAR ALL|SET CHANNELS 24|! front of house|PATCH 1 1<1@100 2<2@100 3<3@50|"
    ++ codes "$SPECIAL 7|CHAN 1@30|CUE 1|TEXT Preset|UP 3|DOWN 3|$$SNAP 1|CHAN 1@50 2@100|CUE 2|UP 5|DOWN 5 1|CHAN 1@50 3@FL|CUE 3"

abbrev uncut : List ℕ
uncut = front ++ codes "|CHAN 2@100"

abbrev file : List ℕ
file = uncut ++ codes "|ENDDATA"

-- the text with a CR before each LF
abbrev with_cr : List ℕ → List ℕ
with_cr bytes = flat_map (λ b. if b == 10 then 13 ∷ 10 ∷ [] else b ∷ []) bytes

-- three lines are skipped, the first of them a manufacturer's record; a CR before each LF changes nothing
checked : map (check_output Moves) (barred file ∷ with_cr (barred file) ∷ [])
    ≡ barred (codes "show cues 3 channels 24 skipped 3 first 8") ∷ barred (codes "show cues 3 channels 24 skipped 3 first 8") ∷ []
unfolding digits
checked = refl

-- read as moves, levels track from cue to cue
as_moves : script_output Render Moves (barred (file ++ codes "|sheet 1|sheet 2|sheet 3")) []
    ≡ barred (codes "row 1 1=128 2=255|row 2 1=128 2=255 3=255|row 3 1=128 2=255 3=255")
unfolding digits
as_moves = refl

-- read as looks, what a cue does not name is 0 in it
as_looks : script_output Render States (barred (file ++ codes "|sheet 1|sheet 2|sheet 3")) []
    ≡ barred (codes "row 1 1=128 2=255|row 2 1=128 3=255|row 3 2=255")
unfolding digits
as_looks = refl

-- the moves that make these looks
moves_of_looks : script_output Render States (barred (file ++ codes "|save")) []
    ≡ barred (codes "IDENT 3:0|SET CHANNELS 24|PATCH 1 1<1@HFF|PATCH 1 2<2@HFF|PATCH 1 3<3@H80|CUE 1|TEXT Preset|PART 1|UP 3 0|"
    ++ codes "DOWN 3 0|CHAN 1@H80|CHAN 2@HFF|CUE 2|PART 1|UP 5 0|DOWN 5 1|CHAN 2@H00|CHAN 3@HFF|CUE 3|PART 1|UP 5 0|DOWN 5 0|"
    ++ codes "CHAN 1@H00|CHAN 2@HFF|CHAN 3@H00|ENDDATA")
unfolding digits
moves_of_looks = refl

-- Without its last line the file has no end, nor has it where it is cut within its last word. Cut within a pair, the level is missing; cut
-- within a level, a shorter number is read, and the end is missing.
cut_short : map (check_output Moves) (barred uncut ∷ (barred uncut ++ codes "ENDDAT") ∷ (barred front ++ codes "CHAN 2@")
    ∷ (barred front ++ codes "CHAN 2@1") ∷ [])
    ≡ map barred (codes "show NoEndData 22" ∷ codes "show NoEndData 23" ∷ codes "show ShortList 21" ∷ codes "show NoEndData 22" ∷ [])
unfolding digits
cut_short = refl
