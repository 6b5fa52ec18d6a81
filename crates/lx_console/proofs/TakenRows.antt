-- The row of one dimmer is taken up into a table that has the others.
use Rattle.lx_console.proofs.Imports.{◌≡◌, ◌≢◌, ℕ, List, sym, subst, ◌∙◌, inl, inr, Option, IfSome, PatchRow, entry_at}
use Rattle.lx_console.proofs.Imports.{DimmerTable, StandsForPatch, stands_alike}
use Rattle.std.proofs.lemmas.Bool.{cases_eq}
use Rattle.lx_show.specs.ChangedEntry.{exchanged_at}
use Rattle.lx_edit.proofs.SameLists.{exchanged_here, exchanged_other, found_here}

pub row_taken : (rows before : List PatchRow) (d : ℕ) (new : Option PatchRow) (table : DimmerTable) → entry_at (λ x. x.dimmer) d rows ≡ new
    → ((e : ℕ) → e ≢ d → entry_at (λ x. x.dimmer) e rows ≡ entry_at (λ x. x.dimmer) e before)
    → StandsForPatch (exchanged_at (λ x. x.dimmer) d new before) table → StandsForPatch rows table
row_taken rows before d new table is others stands =
    let key : PatchRow → ℕ = λ x. x.dimmer in
    let number = subst (λ (o : Option PatchRow). IfSome o (λ x. x.dimmer ≡ d)) is (found_here key d rows) in
    stands_alike (exchanged_at key d new before) rows table (λ e. elim (cases_eq e d) [
      | inl here ↦ rw here (exchanged_here key d new before number ∙ sym is)
      | inr apart ↦ exchanged_other key d e new before number apart ∙ sym (others e apart)
    ]) stands
