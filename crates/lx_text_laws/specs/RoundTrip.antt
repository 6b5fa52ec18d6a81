-- What is written of a show reads back as that show.
use Rattle.std.specs.Prelude.{◌≡◌, Ok, length}
use Rattle.lx_spec.specs.declared.Form.TheVariants.{Moves}
use Rattle.lx_spec.specs.Show.{Show, Valid}
use Rattle.lx_spec.specs.Text.{lines_of}
use Rattle.lx_spec.specs.Reading.{reads, lines_read}
use Rattle.lx_spec.specs.ShowText.{show_text}
use Rattle.lx_spec.specs.Job.{show_wanted}

-- the canonical text of the show is read as that show with no skipped line, and all its lines and bytes are wanted for it
pub record ReadsBack (show : Show) : Type 0 where
  pub reading : reads Moves (show_text show) ≡ Ok (record { show = show; skipped = 0; first_skipped = 0 })
  pub lines : lines_read (lines_of (show_text show)) ≡ length (lines_of (show_text show))
  pub bytes : show_wanted (show_text show) ≡ show_text show

abbrev pub LawOfRoundTrip : Type 0
LawOfRoundTrip = (show : Show) → Valid show → ReadsBack show
