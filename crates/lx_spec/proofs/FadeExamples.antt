-- Examples of fades: whole scripts and what is written for them, by computation.
use Rattle.lx_spec.proofs.Imports.{[], ◌∷◌, refl, codes}
use Rattle.std.specs.Fmt.{digits}
use Rattle.lx_spec.proofs.ScriptTexts.{AllPlayed, row}

fades : AllPlayed (
    -- a rising fade is half way at half its time
    row (codes "CUE 1|UP 2|CHAN 1@FL") (codes "go|tick 50|frame") (codes "ok|ok|frame 100 1 1=127") ∷
    -- a fade begins from the level that the fade before it has reached, not from that fade's target
    row (codes "CUE 1|UP 2|CHAN 1@FL|CUE 2|DOWN 1|CHAN 1@0") (codes "go|tick 50|go|tick 25|frame") (codes "ok|ok|ok|ok|frame 150 1 1=64") ∷
    -- a delay first, and then the fade
    row (codes "CUE 1|UP 2 1|CHAN 1@FL") (codes "go|tick 50|frame|tick 50|frame") (codes "ok|ok|frame 100 1|ok|frame 200 1 1=127") ∷
    -- of two delayed fades the later one with the shorter delay governs for good: the earlier one never shows
    row (codes "CUE 1|UP 1 4|CHAN 1@FL|CUE 2|UP 1 1|CHAN 1@H80") (codes "go|go|tick 75|frame|tick 25|frame|tick 200|frame")
    (codes "ok|ok|ok|frame 150 1 1=64|ok|frame 200 1 1=128|ok|frame 600 1 1=128") ∷
    -- a fade of two hundredths after a delay of one
    row (codes "CUE 1|UP 0.02 0.01|CHAN 1@FL") (codes "go|tick|frame") (codes "ok|ok|frame 2 1 1=127") ∷
    -- a level that is edited while its fade runs is the fade's target at once
    row (codes "CUE 1|UP 2|CHAN 1@FL") (codes "go|tick 50|set 1 chan 1 at H64|frame") (codes "ok|ok|ok|frame 100 1 1=50") ∷
    -- back fades every channel in five seconds
    row (codes "CUE 1|UP 0|DOWN 0|CHAN 1@FL|CUE 2|UP 0|DOWN 0|CHAN 1@50") (codes "go|go|back|tick 125|frame")
    (codes "ok|ok|ok|ok|frame 250 1 1=191") ∷
    -- a cue that is deleted while its fade waits has nothing to fade to
    row (codes "CUE 1|UP 4 1|CHAN 1@FL") (codes "go|tick 25|delete 1|tick 100|frame") (codes "ok|ok|ok|ok|frame 250 1") ∷
    -- a target that is lowered half way lowers the level reached
    row (codes "CUE 1|UP 4 1|CHAN 1@FL") (codes "go|tick 150|set 1 chan 1 at H80|frame") (codes "ok|ok|ok|frame 300 1 1=64") ∷
    -- a cue that is made behind the running one changes nothing: the run began over the opening, before every cue
    row (codes "CUE 1|UP 4 1|CHAN 1@FL") (codes "go|tick 150|cue 0.5|set 0.5 chan 1 at H64|frame") (codes "ok|ok|ok|ok|frame 300 1 1=127") ∷
    [])
unfolding digits
fades = refl
