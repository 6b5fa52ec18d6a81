-- A session of a desk is also one in which any attempt may fail.
use Rattle.lx_desk.proofs.Imports.{◌≡◌, ℕ, Bool, false, Option, Some, None, List, [], ◌∷◌, refl, Session, after_each, AreAllowed, DeskState}
use Rattle.lx_desk.proofs.Imports.{after_line, desk_answering}

pub each_allowed : (failures : List (Option ℕ)) (s : Session DeskState) (script : List (List ℕ))
    → AreAllowed (desk_answering false) failures s script
each_allowed [] s script = tt
each_allowed (failed ∷ failures) s [] = tt
each_allowed (None ∷ failures) s (line ∷ script) = (tt, each_allowed failures (after_line None s line) script)
each_allowed (Some k ∷ failures) s (line ∷ script) = (tt, each_allowed failures (after_line (Some k) s line) script)

-- and where attempts may fail makes no line's answer another
pub alike : (all : Bool) (failures : List (Option ℕ)) (s : Session DeskState) (script : List (List ℕ))
    → after_each (desk_answering all) failures s script ≡ after_each (desk_answering false) failures s script
alike all [] s [] = refl
alike all (failed ∷ failures) s [] = refl
alike all [] s (line ∷ script) = alike all [] (after_line None s line) script
alike all (failed ∷ failures) s (line ∷ script) = alike all failures (after_line failed s line) script
