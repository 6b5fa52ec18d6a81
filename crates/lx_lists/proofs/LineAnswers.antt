-- What a line that is done on the second list may be.
use Rattle.lx_lists.proofs.Imports.{◌≡◌, true, false, Option, Some, None, refl, IfSome, IsTrue, Bool, if◌then◌else◌, Line, is_quit, command_of}
use Rattle.lx_lists.proofs.Imports.{where_of_second, is_of_second, commands_second, frame_of}
use Rattle.lx_spec.specs.declared.Line.TheVariants as lines
use Rattle.lx_spec.specs.ValidEdit.{ValidLine}
use Rattle.lx_spec.proofs.Lists.{decided}

pub record IsOfSecond (meaning : Option Line) : Type 0 where
  pub taken : IfSome (command_of meaning) (λ c. IsTrue (commands_second c))
  pub quit : is_quit meaning ≡ false
  pub frame : frame_of meaning ≡ None

of_second_by : (meaning : Line) (b : Bool) → is_of_second meaning ≡ b → IsOfSecond (if b then Some meaning else None)
of_second_by (lines.Command c) true is = record { taken = is; quit = refl; frame = refl }
of_second_by lines.Save true is = record { taken = tt; quit = refl; frame = refl }
of_second_by (lines.SheetOf n) true is = record { taken = tt; quit = refl; frame = refl }
of_second_by other true is = absurd cc
of_second_by meaning false is = record { taken = tt; quit = refl; frame = refl }

pub of_second : (meaning : Option Line) → IsOfSecond (where_of_second meaning)
of_second None = record { taken = tt; quit = refl; frame = refl }
of_second (Some meaning) = of_second_by meaning (is_of_second meaning) refl

pub valid_where : (meaning : Option Line) → IfSome meaning ValidLine → IfSome (where_of_second meaning) ValidLine
valid_where None valid = tt
valid_where (Some meaning) valid = decided (λ m. IfSome m ValidLine) (is_of_second meaning) (Some meaning) None (λ yes. valid) (λ no. tt)
