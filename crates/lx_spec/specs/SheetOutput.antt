-- What the job `sheet` writes: each cue and its tracked levels.
use Rattle.std.specs.Prelude.{ℕ, Bool, true, false, List, [], ◌∷◌, ◌++◌, length, flat_map, codes, decimal}
use Rattle.lx_spec.specs.declared.Form.{Form}
use Rattle.lx_spec.specs.Show.{Cue, Show}
use Rattle.lx_spec.specs.Reading.{Reading, reads}
use Rattle.lx_spec.specs.ShowText.{line, cue_number_text}
use Rattle.lx_spec.specs.Replies.{row_text, row_of}
use Rattle.lx_spec.specs.FaultLine.{over_show}

abbrev pub kind_word : Bool → List ℕ
kind_word true = codes "block"
kind_word false = codes "track"

abbrev pub label_word : List ℕ → List (List ℕ)
label_word [] = []
label_word (b ∷ bs) = (b ∷ bs) ∷ []

-- cue N KIND P M and its label
abbrev pub cue_line : Cue → List ℕ
cue_line cue =
    line (codes "cue" ∷ cue_number_text cue.number ∷ kind_word cue.block ∷ decimal (length cue.parts) ∷ decimal (length cue.moves)
    ∷ label_word cue.label)

-- and then its row
abbrev pub cue_lines : Show → Cue → List ℕ
cue_lines show cue = cue_line cue ++ row_text cue.number (row_of show cue.number)

abbrev pub sheet_text : Reading → List ℕ
sheet_text reading = flat_map (cue_lines reading.show) reading.show.cues

abbrev pub sheet_output : Form → List ℕ → List ℕ
sheet_output form bytes = over_show (reads form bytes) sheet_text
