-- The replies of lines, as the code gives them.
use Rattle.lx_session.proofs.Imports.{◌≡◌, ℕ, Option, Some, Result, Ok, Err, OnOk, Line, frame_of}
use Rattle.lx_spec.specs.declared.Line.TheVariants as lines

-- a line that asks for a frame
pub frame_is : (meaning : Option Line) (u : ℕ) → frame_of meaning ≡ Some u → meaning ≡ Some (lines.Frame u)
frame_is (Some (lines.Frame v)) u is = cc
frame_is other u is = cc

pub on_ok : {T E : Type 0} (r : Result T E) (P : Type 0) → P → OnOk r P
on_ok (Ok x) P p = p
on_ok (Err e) P p = tt
