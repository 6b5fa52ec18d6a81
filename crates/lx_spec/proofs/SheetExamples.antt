-- Examples of block cues in looks and in sheets, of a frame line with a count, and of the generator, by computation.
use Rattle.lx_spec.proofs.Imports.{◌≡◌, List, [], ◌∷◌, ◌++◌, refl, codes, ℕ, Moves, States, SubMember, Fader, Show, sheet_output, reads}
use Rattle.lx_spec.proofs.Imports.{Render, script_output, script_session}
use Rattle.std.specs.Fmt.{digits}
use Rattle.lx_spec.specs.declared.Command.TheVariants as commands
use Rattle.lx_spec.specs.FaultLine.{over_show}
use Rattle.lx_spec.specs.MakeOutput.{made_cue, made_turn, made_text}
use Rattle.lx_spec.specs.Versions.{versions_text}
use Rattle.lx_spec.proofs.ScriptTexts.{barred}

abbrev blocked_show : List ℕ
blocked_show = barred (codes "IDENT 3:0|CUE 1|TEXT Start|CHAN 1@50|CUE 2|$$BLOCK|CHAN 2@FL|CUE 3|CHAN 3@FL|ENDDATA|save")

-- read as looks, a block cue moves all that is up in it, and another cue what changes
looks_of_a_block_cue : script_output Render States blocked_show []
    ≡ barred (codes "IDENT 3:0|SET CHANNELS 512|CUE 1|TEXT Start|PART 1|UP 5 0|DOWN 5 0|CHAN 1@H80"
    ++ codes "|CUE 2|$$BLOCK|PART 1|UP 5 0|DOWN 5 0|CHAN 2@HFF|CUE 3|PART 1|UP 5 0|DOWN 5 0|CHAN 2@H00|CHAN 3@HFF|ENDDATA")
unfolding digits
looks_of_a_block_cue = refl

-- in a sheet a block cue is called so, and what it doesn't move is at 0 in it
sheet_of_a_block_cue : sheet_output Moves blocked_show
    ≡ barred (codes "cue 1 track 1 1 Start|row 1 1=128|cue 2 block 1 1|row 2 2=255|cue 3 track 1 1|row 3 2=255 3=255")
unfolding digits
sheet_of_a_block_cue = refl

-- a show without cues, whose dimmer 600 follows channel 1
abbrev patched : Show
patched = record { channels = 1; cues = []; groups = []; subs = []; patch = record { dimmer = 600; chan = 1; level = 255 } ∷ [] }

-- the frame line of a version has its count before the moment
counted_frames : versions_text patched 2
    ([] ∷ (commands.Edit (SubMember 1 (record { first = 1; last = 1 }) 200) ∷ commands.Key (Fader 1 255) ∷ commands.Tick ∷ []) ∷ [])
    ≡ barred (codes "frame 0 0 2|frame 3 2 2 88=200")
unfolding digits
counted_frames = refl

-- the generator's draws from 1, in the order of the text: cue 1, and then the first turn of the script
drawn_cue : made_cue 1 1 ≡ barred (codes "CUE 1|UP 8|CHAN 127@13|CHAN 108@44|CHAN 508@83|CHAN 252@52")
unfolding digits
drawn_cue = refl

drawn_turn : made_turn 1 1 ≡ barred (codes "go|tick 87|set 1 chan 190 at 41|frame")
unfolding digits
drawn_turn = refl

-- that input, but for the dimmers that none of these channels has
abbrev small_input : List ℕ
small_input =
    barred (codes "IDENT 3:0|PATCH 1 127<127@100 108<108@100 508<508@100 252<252@100 190<190@100")
    ++ made_cue 1 1 ++ barred (codes "ENDDATA") ++ made_turn 1 1 ++ barred (codes "quit")

-- the levels are 33, 112, 212, 133 and 105, in an up time of 8 seconds: at moment 174 the slots are 7, 24, 46, 28 and 22
five_lines : over_show (reads Moves small_input) (λ reading. made_text 1 (script_session Render small_input [] reading))
    ≡ barred (codes "cues 1|moment 174|ok 3|refused 0|sum 127")
unfolding digits
five_lines = refl
