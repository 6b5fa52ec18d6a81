-- Whether the cues of a show are asserted, where one is placed or taken out.
use Rattle.lx_edit.proofs.Imports.{◌≡◌, ℕ, false, Some, None, refl, ◌∙◌, sym, ap, inl, inr, Option, IfSome, option_map_or, cases_eq}
use Rattle.lx_edit.proofs.Imports.{Cue, Show, asserts, changed_show, with_above}
use Rattle.lx_edit.proofs.SameLists.{exchanged_here, exchanged_other}

-- a cue changed that is asserted where that of its number was, or taken out where that wasn't
pub asserts_changed : (show : Show) (n k : ℕ) (new : Option Cue) → IfSome new (λ cue. cue.number ≡ n)
    → asserts show n ≡ option_map_or (λ cue. cue.asserted) new false → asserts show k ≡ asserts (changed_show show n new) k
asserts_changed show n k new number same =
    let flag = λ (o : Option Cue). option_map_or (λ cue. cue.asserted) o false in
    elim (cases_eq k n) [
      | inl here ↦ rw (here, exchanged_here (λ (x : Cue). x.number) n new show.cues number) same
      | inr other ↦ sym (ap flag (exchanged_other (λ (x : Cue). x.number) n k new show.cues number other))
    ]

-- and the cue above placed too
pub asserts_above : (show after : Show) (above : Option Cue) (k : ℕ) → ((j : ℕ) → asserts show j ≡ asserts after j)
    → IfSome above (λ cue. asserts show cue.number ≡ cue.asserted) → asserts show k ≡ asserts (with_above above after) k
asserts_above show after None k before same = before k
asserts_above show after (Some cue) k before same =
    before k ∙ asserts_changed after cue.number k (Some cue) refl (sym (before cue.number) ∙ same)
