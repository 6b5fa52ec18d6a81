-- Script lines: what they mean, and some that mean nothing, by computation.
use Rattle.lx_spec.proofs.Imports.{◌≡◌, ◌*◌, ◌/◌, true, Some, None, [], ◌∷◌, map, refl, codes, replicate, CUE_UNIT, line_of}
use Rattle.lx_spec.specs.declared.Line.TheVariants as lines
use Rattle.lx_spec.specs.declared.Command.TheVariants as commands
use Rattle.lx_spec.specs.declared.Edit.TheVariants as edits

set_line : line_of (codes "set 2.5 chan 1 thru 3 at 50 part 2 only")
    ≡ Some (lines.Command (commands.Edit (edits.Set (CUE_UNIT * 5 / 2) (Some 2) (record { first = 1; last = 3 }) 128 true)))
set_line = refl

label_line : line_of (codes "Label 1 ! the rest") ≡ Some (lines.Command (commands.Edit (edits.Name CUE_UNIT (codes "! the rest"))))
label_line = refl

comment_line : line_of (codes " ! go") ≡ Some lines.Blank
comment_line = refl

-- numbers out of their range: ticks, and a cue
out_of_range : map (λ t. line_of (codes t)) ("tick 0" ∷ "tick 100000001" ∷ "goto 0" ∷ []) ≡ replicate 3 None
out_of_range = refl

-- one word more, a turned range, a wrong order, and an unknown word
no_sentences : map (λ t. line_of (codes t)) ("go now" ∷ "set 1 chan 5 thru 4 at 0" ∷ "set 1 chan 1 at 5 only part 1" ∷ "fly 3" ∷ [])
    ≡ replicate 4 None
no_sentences = refl

long_line : line_of (replicate 4097 120) ≡ None
long_line = refl
