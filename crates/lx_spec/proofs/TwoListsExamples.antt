-- Worked examples: two cue lists beside each other. What is written for whole inputs, by computation.
use Rattle.lx_spec.proofs.Imports.{◌≡◌, ℕ, List, [], ◌∷◌, ◌++◌, codes, refl, Moves, Script, Two, output_of}
use Rattle.std.specs.Fmt.{digits}
use Rattle.lx_spec.proofs.ScriptTexts.{barred, played_barred, AllGiven, row}

-- what is written by two lists over the show whose dimmer 1 follows channel 1, each as lines between bars
abbrev two_barred : List ℕ → List ℕ → List ℕ
two_barred lines script =
    output_of (Script Two Moves) (barred (codes "IDENT 3:0|PATCH 1 1<1@FL|" ++ lines ++ codes "|ENDDATA|" ++ script)) []

-- cue 1 is the first list's and cue 5000 the second's
abbrev both : List ℕ
both = codes "CUE 1|UP 0|DOWN 0|CHAN 1@H64|CUE 5000|UP 0|DOWN 0|CHAN 1@HC8"

two_lists : AllGiven two_barred (
    -- the greatest level governs; the second list has its own position, keys and edits, and the first the frames
    row both (codes "go|frame|2 go|frame|go|2 back|2 frame|2 set 5000 chan 1 at 0|frame|sheet 5000")
    (codes "ok|frame 0 1 1=100|ok|frame 0 1 1=200|refused NoCueAfter 1|refused NoCueBefore 5000|bad|ok|frame 0 1 1=100|"
    ++ codes "refused AbsentCue 5000") ∷
    -- the cue on the bound is the second list's alone
    row both (codes "sheet 1|2 sheet 1|2 sheet 5000|sheet 5000")
    (codes "row 1 1=100|refused AbsentCue 1|row 5000 1=200|refused AbsentCue 5000") ∷
    -- the output is the first list's: its master, its faders and its patch; a submaster is the first list's alone
    row both
    (codes "go|2 go|master at 50|frame|2 master at FL|2 fader 1 at FL|2 patch 2 chan 1 at FL|2 sub 1 chan 1 at FL|"
    ++ codes "patch 2 chan 1 at FL|frame") (codes "ok|ok|ok|frame 0 1 1=100|bad|bad|bad|bad|ok|frame 0 1 1=100 2=100") ∷
    -- a tick is of both
    row (codes "CUE 1|UP 1|CHAN 1@H64|CUE 5000|UP 1|CHAN 1@HC8") (codes "go|2 go|tick 25|frame|tick 25|frame")
    (codes "ok|ok|ok|frame 50 1 1=100|ok|frame 100 1 1=200") ∷
    -- lines that the second list doesn't know
    row both (codes "2|2 !go|2 tick|2 quit|2 2 go|2,go|2 save x|2 settle") (codes "bad|bad|bad|bad|bad|ok|bad|ok") ∷
    [])
unfolding digits
two_lists = refl

-- lines of a session without a second list
without_a_second : played_barred both (codes "2 go|sheet 5000") ≡ barred (codes "bad|row 5000 1=200")
unfolding digits
without_a_second = refl
