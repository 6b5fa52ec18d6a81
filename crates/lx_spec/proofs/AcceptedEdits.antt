-- Examples of accepted edits: whole scripts and what is written for them, by computation.
use Rattle.lx_spec.proofs.Imports.{[], ◌∷◌, ◌++◌, refl, codes}
use Rattle.std.specs.Fmt.{digits}
use Rattle.lx_spec.proofs.ScriptTexts.{AllPlayed, row}

accepted : AllPlayed (
    -- a time is that of runs from then on: one that is under way keeps what it captured
    row (codes "CUE 1|CHAN 1@FL") (codes "time 1 up 2 1|go|tick 100|frame|time 1 up 0|frame|time 1 part 2 down 1|save")
    (codes "ok|ok|ok|frame 200 1 1=127|ok|frame 200 1 1=127|refused AbsentPart 1 2|IDENT 3:0|SET CHANNELS 512|PATCH 1 1<1@HFF|"
    ++ codes "CUE 1|PART 1|UP 0 0|DOWN 5 0|CHAN 1@HFF|ENDDATA") ∷
    -- a part that is made again stays as it was; taken away, its moves are in part 1
    row (codes "CUE 1|CHAN 1@FL")
    (codes "part 1 2|time 1 part 2 up 1 0.5|part 1 2|set 1 chan 2 at 50 part 2|save|unpart 1 2|save|unpart 1 2")
    (codes "ok|ok|ok|ok|IDENT 3:0|SET CHANNELS 512|PATCH 1 1<1@HFF|CUE 1|PART 1|UP 5 0|DOWN 5 0|CHAN 1@HFF|PART 2|UP 1 0.5|"
    ++ codes "DOWN 5 0|CHAN 2@H80|ENDDATA|ok|IDENT 3:0|SET CHANNELS 512|PATCH 1 1<1@HFF|CUE 1|PART 1|UP 5 0|DOWN 5 0|CHAN 1@HFF|"
    ++ codes "CHAN 2@H80|ENDDATA|refused AbsentPart 1 2") ∷
    -- a follow is pending from the start of its cue on; to take it away then changes nothing on stage
    row (codes "CUE 1|UP 0|DOWN 0|CUE 2|UP 0|DOWN 0|CHAN 1@FL")
    (codes "follow 1 1|go|follow 1 off|tick 49|frame|tick|frame|follow 3 1|save")
    (codes "ok|ok|ok|ok|frame 98 1|ok|frame 100 1 1=255|refused AbsentCue 3|IDENT 3:0|SET CHANNELS 512|PATCH 1 1<1@HFF|CUE 1|"
    ++ codes "PART 1|UP 0 0|DOWN 0 0|CUE 2|PART 1|UP 0 0|DOWN 0 0|CHAN 1@HFF|ENDDATA") ∷
    -- a follow that is taken away before its cue is started starts nothing
    row (codes "CUE 1|UP 0|DOWN 0|FOLLOWON 1|CUE 2|UP 0|DOWN 0|CHAN 1@FL") (codes "follow 1 off|go|tick 60|frame")
    (codes "ok|ok|ok|frame 120 1") ∷
    -- the members of a group move at their levels in proportion; a member is placed again, and the group is in the canonical text
    row (codes "CUE 1|UP 0|DOWN 0")
    (codes "group 7 chan 1 thru 2 at 50|group 7 chan 2 at FL|set 1 group 7 at H80|go|frame|sheet 1|save|"
    ++ codes "group 8 chan 500 thru 600 at 5")
    (codes "ok|ok|ok|ok|frame 0 1 1=64|row 1 1=64 2=128|IDENT 3:0|SET CHANNELS 512|PATCH 1 1<1@HFF|GROUP 7|CHAN 1@H80|CHAN 2@HFF|"
    ++ codes "CUE 1|PART 1|UP 0 0|DOWN 0 0|CHAN 1@H40|CHAN 2@H80|ENDDATA|refused AbsentChannel 513") ∷
    -- a submaster gives its members their levels in the proportion of its fader, from when it is made on
    row (codes "CUE 1")
    (codes "fader 3 at H80|sub 3 chan 1 at 50|fader 3 at H80|frame|sub 3 chan 1 at FL|frame|sub 3 chan 1 at 0|frame|"
    ++ codes "sub 3 chan 513 at 5")
    (codes "refused AbsentSub 3|ok|ok|frame 0 1 1=64|ok|frame 0 1 1=128|ok|frame 0 1|refused AbsentChannel 513") ∷
    -- two dimmers follow one channel, each in its proportion, until one is taken out
    row (codes "CUE 1|UP 0|CHAN 1@FL")
    (codes "go|patch 2 chan 1 at 50|patch 600 chan 1 at FL|frame|frame 2|unpatch 1|frame|unpatch 1|patch 1 chan 513 at FL")
    (codes "ok|ok|ok|frame 0 1 1=255 2=128|frame 0 2 88=255|ok|frame 0 1 2=128|refused AbsentDimmer 1|refused AbsentChannel 513") ∷
    [])
unfolding digits
accepted = refl
