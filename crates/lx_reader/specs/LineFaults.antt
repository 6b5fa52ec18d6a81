-- Why a line ends the reading.
use Rattle.std.specs.Prelude.{◌≡◌, Result, Err}
use Rattle.lx_spec.specs.declared.TextFault.{TextFault}
use Rattle.lx_reader.specs.declared.fault.ShowFault.{ShowFault}
use Rattle.lx_reader.specs.declared.fault.ShowFault.TheVariants.{Text, Memory}

-- a fault of the text is the definition's, out of memory may come anywhere, and a line has no other fault
abbrev pub IsFaultOf : {A : Type 0} → ShowFault → Result A TextFault → Type 0
IsFaultOf (Text fault) result = result ≡ Err fault
IsFaultOf Memory result = Unit {0}
IsFaultOf other result = ⊥
