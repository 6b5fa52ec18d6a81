-- Examples of keys, follows and outputs: whole scripts and what is written for them, by computation.
use Rattle.lx_spec.proofs.Imports.{◌≡◌, flat_map, replicate, [], ◌∷◌, ◌++◌, refl, codes, Moves, Render, script_output}
use Rattle.std.specs.Fmt.{digits}
use Rattle.lx_spec.proofs.ScriptTexts.{barred, AllPlayed, row}

keys : AllPlayed (
    -- one cue, its frame, and the canonical text of its show
    row (codes "CUE 1|UP 0|CHAN 1@H80") (codes "go|frame|save|quit|go")
    (codes "ok|frame 0 1 1=128|IDENT 3:0|SET CHANNELS 512|PATCH 1 1<1@HFF|CUE 1|PART 1|UP 0 0|DOWN 5 0|CHAN 1@H80|ENDDATA") ∷
    -- a follow starts the cue above at the first tick at which it is due; the last one starts nothing
    row (codes "CUE 1|UP 0|DOWN 0|FOLLOWON 2.51|CUE 2|UP 0|DOWN 0|FOLLOWON 0|CHAN 1@FL") (codes "go|tick 125|frame|tick|frame|tick|go")
    (codes "ok|ok|frame 250 1|ok|frame 252 1 1=255|ok|refused NoCueAfter 2") ∷
    -- a block cue without moves takes a channel to 0: its run acts where the tracked levels differ
    row (codes "CUE 1|UP 0|DOWN 0|CHAN 1@FL|CUE 2|UP 0|DOWN 0|$$BLOCK") (codes "go|go|frame") (codes "ok|ok|frame 0 1") ∷
    -- what is settled is at its levels at once, and stays there under a run of the same cue
    row (codes "CUE 1|UP 40:00|CHAN 1@FL") (codes "goto 1|settle|goto 1|frame") (codes "ok|ok|ok|frame 0 1 1=255") ∷
    -- 512 runs may be live and no more, until they are settled
    row (codes "CUE 1|UP 40:00|CHAN 1@FL") (flat_map codes (replicate 512 "goto 1|") ++ codes "goto 1|settle|goto 1")
    (flat_map codes (replicate 512 "ok|") ++ codes "refused PlaybackFull|ok|ok") ∷
    [])
unfolding digits
keys = refl

-- without cues there is none after and none before the opening
no_cues : script_output Render Moves (barred (codes "IDENT 3:0|ENDDATA|go|back|frame")) []
    ≡ barred (codes "refused NoCueAfter 0|refused NoCueBefore 0|frame 0 1")
unfolding digits
no_cues = refl

-- the output is the greatest of playback and submasters, under the master, in proportion at the dimmer
greatest_of_sources : script_output Render Moves
    (barred (codes "IDENT 3:0|PATCH 1 1<1@FL 2<513@50|SUB 1|CHAN 1@HC8|CUE 1|UP 0|CHAN 1@H64 2@FL|ENDDATA|go|fader 1 at H80|"
    ++ codes "frame|frame 2|master at H80|frame|frame 2|fader 2 at 10|unpatch 7")) []
    ≡ barred (codes "ok|ok|frame 0 1 1=100|frame 0 2 1=128|ok|frame 0 1 1=50|frame 0 2 1=64|refused AbsentSub 2|refused AbsentDimmer 7")
unfolding digits
greatest_of_sources = refl
