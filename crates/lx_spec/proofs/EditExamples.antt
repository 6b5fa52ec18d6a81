-- Examples of edits: whole scripts and what is written for them, by computation.
use Rattle.lx_spec.proofs.Imports.{◌≡◌, None, Some, [], ◌∷◌, ◌++◌, refl, codes, Moves, Render, script_output}
use Rattle.std.specs.Fmt.{digits}
use Rattle.lx_spec.proofs.ScriptTexts.{barred, AllPlayed, row}

edits : AllPlayed (
    -- a cue-only edit leaves the look of the cue above as it was; a second one changes nothing
    row (codes "CUE 1|CHAN 1@FL|CUE 2|CUE 3")
    (codes "set 2 chan 1 at 50 only|sheet 1|sheet 2|sheet 3|set 2 chan 1 at 50 only|sheet 1|sheet 2|sheet 3")
    (codes "ok|row 1 1=255|row 2 1=128|row 3 1=255|ok|row 1 1=255|row 2 1=128|row 3 1=255") ∷
    -- the move that keeps the cue above can be released, and then is absent
    row (codes "CUE 1|CHAN 1@FL|CUE 2|CUE 3") (codes "set 2 chan 1 at 50 only|release 3 chan 1|release 3 chan 1")
    (codes "ok|ok|refused AbsentMove 3 1") ∷
    -- edits before a block cue do not track into it; unblocked, it keeps its look
    row (codes "CUE 1|CHAN 1@FL|CUE 2|CUE 3") (codes "block 2|set 1 chan 1 at 0|set 1 chan 2 at FL|sheet 1|sheet 2|unblock 2|sheet 2")
    (codes "ok|ok|ok|row 1 2=255|row 2 1=255|ok|row 2 1=255") ∷
    -- a cue that is deleted on stage leaves its number as the position, with the levels that track there
    row (codes "CUE 1|UP 0|DOWN 0|CHAN 1@FL|CUE 2|UP 0|DOWN 0|CHAN 1@0|CUE 3|UP 0|DOWN 0|CHAN 1@50")
    (codes "go|go|frame|delete 2|frame|go|frame")
    (codes "ok|ok|frame 0 1|ok|frame 0 1 1=255|ok|frame 0 1 1=128") ∷
    -- a cue that is made just behind the position tracks to the stage
    row (codes "CUE 1|UP 0|DOWN 0|CHAN 1@FL|CUE 3|UP 0|DOWN 0") (codes "goto 3|tick|frame|cue 2.5|set 2.5 chan 1 at 0|frame")
    (codes "ok|ok|frame 2 1 1=255|ok|ok|frame 2 1") ∷
    -- each refusal names what is absent, and changes nothing
    row (codes "CUE 1|UP 0|CHAN 1@H80")
    (codes "set 9 chan 1 at 5|set 1 chan 1 at 5 part 2|set 1 chan 510 thru 600 at 5|set 1 group 4 at 5|unpart 1 1|fly 3|go|frame|"
    ++ codes "sheet 1")
    (codes "refused AbsentCue 9|refused AbsentPart 1 2|refused AbsentChannel 513|refused AbsentGroup 4|refused BasePart|bad|ok|"
    ++ codes "frame 0 1 1=128|row 1 1=128") ∷
    -- a range of one channel at 0 is a move, and no release
    row (codes "CUE 1|CHAN 1@FL|CUE 2|CUE 3") (codes "set 1 chan 5 thru 5 at 0|release 1 chan 5|release 1 chan 5")
    (codes "ok|ok|refused AbsentMove 1 5") ∷
    -- a label is the rest of its line, the comment included; without a rest it goes
    row (codes "CUE 1|UP 0|CHAN 1@H80") (codes "label 1,! a|save|label 1|save")
    (codes "ok|IDENT 3:0|SET CHANNELS 512|PATCH 1 1<1@HFF|CUE 1|TEXT ! a|PART 1|UP 0 0|DOWN 5 0|CHAN 1@H80|ENDDATA|ok|IDENT 3:0|"
    ++ codes "SET CHANNELS 512|PATCH 1 1<1@HFF|CUE 1|PART 1|UP 0 0|DOWN 5 0|CHAN 1@H80|ENDDATA") ∷
    [])
unfolding digits
edits = refl

-- out of memory at the second line its attempt fails, and changes nothing
refused_for_memory : script_output Render Moves
    (barred (codes "IDENT 3:0|PATCH 1 1<1@FL|CUE 1|UP 0|CHAN 1@H80|ENDDATA|go|set 1 chan 1 at 5|frame")) (None ∷ Some 0 ∷ [])
    ≡ barred (codes "ok|refused Memory|frame 0 1 1=128")
unfolding digits
refused_for_memory = refl
