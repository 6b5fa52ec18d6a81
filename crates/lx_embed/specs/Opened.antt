-- What opening a desk over a show's text comes to.
use Rattle.std.specs.Prelude.{◌≡◌, ◌≤◌, ◌<◌, ℕ, Option, None, Ok, Err, List, [], length}
use Rattle.lx_base.specs.declared.TheConstants.{INPUT_BYTES, UNIVERSES}
use Rattle.lx_spec.specs.declared.Form.{Form}
use Rattle.lx_spec.specs.declared.TextFault.{TextFault}
use Rattle.lx_spec.specs.Reading.{Reading, reads}
use Rattle.lx_spec.specs.Job.{show_wanted}
use Rattle.lx_reader.specs.declared.fault.ShowFault.{ShowFault}
use Rattle.lx_reader.specs.Answer.{OfText}
use Rattle.lx_embed.specs.declared.desk.HostDesk.{HostDesk}
use Rattle.lx_embed.specs.declared.engine.Engine.{Engine}
use Rattle.lx_embed.specs.Engines.{OpenedAs}
use Rattle.lx_embed.specs.ReplyBytes.{reply_bytes, wants_of}
use Rattle.lx_embed.specs.TakenSlots.{taken_of}

-- The text can be read, and the engine stands for the desk that is opened over its show. The lines up to ENDDATA are within the limit of an
-- input; what stands behind them isn't looked at.
pub record OpensText (form : Form) (depth : Option ℕ) (text : List ℕ) (engine : Engine) : Type 0 where
  pub reading : Reading
  pub reads_as : reads form text ≡ Ok reading
  pub within : length (show_wanted text) ≤ INPUT_BYTES
  pub stands : OpenedAs depth reading.show engine

-- the text has this fault, and the lines up to it are within the limit of an input
pub record HasFault (form : Form) (text : List ℕ) (fault : TextFault) : Type 0 where
  pub reads_as : reads form text ≡ Err fault
  pub within : length (show_wanted text) ≤ INPUT_BYTES

-- The fault is that of the text. InputTooLong comes only where the lines up to ENDDATA or to the first fault are longer than the limit, ReadFault
-- never, and memory may run out.
abbrev pub RefusesShow : Form → List ℕ → ShowFault → Type 0
RefusesShow form text fault = OfText (HasFault form text) (INPUT_BYTES < length (show_wanted text)) ⊥ fault

-- Nothing was done with the desk yet: its reply is empty, nothing of it was taken, and neither its heap nor that of its reply has refused any.
pub record IsUntouched (desk : HostDesk) : Type 0 where
  pub reply : reply_bytes desk.reply ≡ []
  pub untaken : (u : ℕ) → 1 ≤ u → u ≤ UNIVERSES → taken_of desk.taken u ≡ None
  pub wants : wants_of desk.reply ≡ 0
  pub refusals : desk.heap.refusals ≡ 0
