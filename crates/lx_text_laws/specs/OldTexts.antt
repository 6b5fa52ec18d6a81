-- What a text from before cue numbers became finer means.
use Rattle.std.specs.Prelude.{◌≡◌, ℕ, Ok, List, IfOk}
use Rattle.lx_spec.specs.declared.Form.{Form}
use Rattle.lx_spec.specs.Limits.{Limits}
use Rattle.lx_spec.specs.Text.{lines_of}
use Rattle.lx_spec.specs.Facts.{first_facts}
use Rattle.lx_spec.specs.Reading.{Reading, reads_under, count_read}
use Rattle.lx_spec.specs.Finer.{HasOneDecimalMore, finer}

-- the text is read as the same show, with each cue number and each link in the finer steps, and its show ends at the same line
pub record ReadsFiner (now before : Limits) (form : Form) (bytes : List ℕ) (reading : Reading) : Type 0 where
  pub reading_now : reads_under now form bytes ≡ Ok (finer reading)
  pub lines : count_read (first_facts now) (lines_of bytes) ≡ count_read (first_facts before) (lines_of bytes)

-- a text that could be read before is read so now
abbrev pub LawOfOldTexts : Type 0
LawOfOldTexts = (now before : Limits) (form : Form) (bytes : List ℕ) → HasOneDecimalMore now before
    → IfOk (reads_under before form bytes) (ReadsFiner now before form bytes)
