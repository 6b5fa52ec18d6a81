-- Examples of asserted cues: whole scripts and what is written for them, by computation.
use Rattle.lx_spec.proofs.Imports.{◌≡◌, [], ◌∷◌, ◌++◌, refl, codes, Moves, check_output}
use Rattle.std.specs.Fmt.{digits}
use Rattle.lx_spec.proofs.ScriptTexts.{barred, AllPlayed, row}

asserted : AllPlayed (
    -- a run acts on every channel as long as its cue is asserted; a cue that is deleted and made again is not
    row (codes "CUE 1|UP 10|CHAN 1@FL|CUE 2|UP 2")
    (codes "go|tick 250|go|tick 50|frame|assert 2|frame|unassert 2|frame|assert 2|delete 2|frame|cue 2|frame|assert 9")
    (codes "ok|ok|ok|ok|frame 600 1 1=153|ok|frame 600 1 1=191|ok|frame 600 1 1=153|ok|ok|frame 600 1 1=153|ok|frame 600 1 1=153|"
    ++ codes "refused AbsentCue 9") ∷
    -- asserted by its text, and written so
    row (codes "CUE 1|UP 10|CHAN 1@FL|CUE 2|UP 2|$$ASSERT") (codes "go|tick 250|go|tick 50|frame|block 2|save")
    (codes "ok|ok|ok|ok|frame 600 1 1=191|ok|IDENT 3:0|SET CHANNELS 512|PATCH 1 1<1@HFF|CUE 1|PART 1|UP 10 0|DOWN 5 0|CHAN 1@HFF|"
    ++ codes "CUE 2|$$BLOCK|$$ASSERT|PART 1|UP 2 0|DOWN 5 0|CHAN 1@HFF|ENDDATA") ∷
    [])
unfolding digits
asserted = refl

-- outside of a cue the line is a manufacturer's own, even before IDENT
asserted_outside : check_output Moves (barred (codes "$$ASSERT|IDENT 3:0|GROUP 1|$$ASSERT|CUE 1|$$ASSERT|ENDDATA"))
    ≡ barred (codes "show cues 1 channels 512 skipped 2 first 1")
unfolding digits
asserted_outside = refl
