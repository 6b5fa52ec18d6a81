-- A table that stands for a show's patch reaches no further than the show's channels, and its slots are the values of the dimmers.
use Rattle.lx_patch.proofs.Imports.{◌≡◌, ◌⊎◌, ℕ, ◌+◌, ◌-◌, ◌<◌, ◌≤◌, List, refl, Some, AllByRecursion, option_map_or, arith, get_or, ◌∙◌, ap, inl}
use Rattle.lx_patch.proofs.Imports.{inr, SLOTS, scaled, PatchRow, entry_at, dimmer_value, IsTable, told, DimmerTable, StandsForPatch, ReachTable}
use Rattle.lx_patch.proofs.Imports.{Option, None}
use Rattle.std.proofs.Common.{IfSome}
use Rattle.lx_spec.proofs.Lists.{find_has}
use Rattle.lx_spec.specs.Show.{Show, Valid, ValidPatchRow}

-- a row's place is below the channel count, and a dimmer without a row has the first place at 0
place_within : (n : ℕ) (row : Option PatchRow) → IfSome row (ValidPatchRow n) → (option_map_or (λ r. r.chan - 1) row 0 < n)
    ⊎ ((option_map_or (λ r. r.chan - 1) row 0 ≡ 0) × (option_map_or (λ r. r.level) row 0 ≡ 0))
place_within n None valid = inr (refl, refl)
place_within n (Some row) valid = inl (omega (arith, valid.chan.least, valid.chan.most))

-- outputs for all channels have one for each that is patched
pub reaches : (show : Show) (table : DimmerTable) (n : ℕ) → Valid show → show.channels ≤ n → StandsForPatch show.patch table
    → ReachTable n table
reaches show table n valid enough stands = λ k within.
    let place = stands.places.each k within in
    let level = stands.levels.each k within in
    elim (place_within show.channels (entry_at (λ r. r.dimmer) (k + 1) show.patch) (find_has _ _ show.patch valid.patch)) [
      | inl low ↦ inl (omega (arith, place, low, enough))
      | inr none ↦ inr (place ∙ none.0, level ∙ none.1)
    ]

same_slot : (channels : ℕ) (outs : List ℕ) (out : ℕ → ℕ) (row : Option PatchRow) → IsTable channels out outs
    → IfSome row (ValidPatchRow channels)
    → option_map_or (λ r. scaled (get_or outs (r.chan - 1) 0) r.level) row 0 ≡ option_map_or (λ r. scaled (out r.chan) r.level) row 0
same_slot channels outs out None table valid = refl
same_slot channels outs out (Some row) table valid =
    ap (λ l. scaled l row.level) (told channels out outs row.chan table valid.chan.least valid.chan.most)

-- the slots of the outputs in a table are the values of the dimmers
pub patched : (show : Show) (out : ℕ → ℕ) (outs slots : List ℕ) → AllByRecursion (ValidPatchRow show.channels) show.patch
    → IsTable show.channels out outs
    → IsTable SLOTS (dimmer_value show.patch (λ c. get_or outs (c - 1) 0)) slots → IsTable SLOTS (dimmer_value show.patch out) slots
patched show out outs slots rows table stand = record {
  reach = stand.reach;
  each = λ k within. stand.each k within ∙ same_slot show.channels outs out (entry_at (λ r. r.dimmer) (k + 1) show.patch) table
      (find_has _ _ show.patch rows);
}
