-- The row line of a console.
use Rattle.lx_session.proofs.Imports.{◌≡◌, ℕ, false, Option, Some, None, refl, ap, option_map, is_some}
use Rattle.lx_session.proofs.Imports.{Refusal, AbsentCue, Cue, Show, cue_of, Desk, Kept, row_of, refused_text, StandsFor, reply_to}
use Rattle.lx_spec.specs.declared.Line.TheVariants as lines

-- no row, no cue
absent : (o : Option Cue) (show : Show) (n : ℕ) → None ≡ option_map (λ (cue : Cue). row_of show n) o → is_some o ≡ false
absent None show n e = refl
absent (Some cue) show n e = absurd cc

pub absent_reply : (d : Desk) (console : Kept) (n : ℕ) (refusal : Option Refusal) → StandsFor d console
    → None ≡ option_map (λ (cue : Cue). row_of console.show n) (cue_of console.show n)
    → refused_text (AbsentCue n) ≡ reply_to d (Some (lines.SheetOf n)) refusal
absent_reply d console n refusal stands none =
    let show : console.show ≡ d.show = ap (λ k. k.show) stands.same in
    rw (absent (cue_of d.show n) d.show n (rw show at none), reply_to) refl
