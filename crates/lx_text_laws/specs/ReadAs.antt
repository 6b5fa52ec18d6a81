-- What comes of a text that is in memory whole.
use Rattle.std.specs.Prelude.{◌≡◌, ℕ, ◌<◌, Result, Ok, Err, List, length}
use Rattle.lx_base.specs.declared.TheConstants.{INPUT_BYTES}
use Rattle.lx_spec.specs.declared.TextFault.{TextFault}
use Rattle.lx_spec.specs.Reading.{Reading}
use Rattle.lx_spec.specs.Job.{show_wanted}
use Rattle.lx_reader.specs.declared.loaded.Loaded.{Loaded}
use Rattle.lx_reader.specs.declared.fault.ShowFault.{ShowFault}
use Rattle.lx_reader.specs.declared.fault.ShowFault.TheVariants as faults
use Rattle.lx_reader.specs.Answer.{reading_of}

-- What comes is what is meant, a show or a fault of the text; unless what the show needs of the text is longer than an input may be, or
-- memory runs out. No read fails.
abbrev pub ComesAs : List ℕ → Result Reading TextFault → Result Loaded ShowFault → Type 0
ComesAs text meant (Ok loaded) = meant ≡ Ok (reading_of loaded)
ComesAs text meant (Err (faults.Text fault)) = meant ≡ Err fault
ComesAs text meant (Err faults.InputTooLong) = INPUT_BYTES < length (show_wanted text)
ComesAs text meant (Err faults.ReadFault) = ⊥
ComesAs text meant (Err faults.Memory) = Unit {0}
