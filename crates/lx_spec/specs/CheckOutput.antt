-- What the job `check` writes: one line about the show.
use Rattle.std.specs.Prelude.{ℕ, List, [], ◌∷◌, length, codes, decimal}
use Rattle.lx_spec.specs.declared.Form.{Form}
use Rattle.lx_spec.specs.Reading.{Reading, reads}
use Rattle.lx_spec.specs.ShowText.{line}
use Rattle.lx_spec.specs.FaultLine.{over_show}

-- show cues A channels B skipped C first D
abbrev pub check_text : Reading → List ℕ
check_text reading =
    line (codes "show" ∷ codes "cues" ∷ decimal (length reading.show.cues) ∷ codes "channels" ∷ decimal reading.show.channels
    ∷ codes "skipped" ∷ decimal reading.skipped ∷ codes "first" ∷ decimal reading.first_skipped ∷ [])

abbrev pub check_output : Form → List ℕ → List ℕ
check_output form bytes = over_show (reads form bytes) check_text
