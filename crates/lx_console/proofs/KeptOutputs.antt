-- An output shows a player when its outputs are mixed from the player's levels, and does so while nothing that goes out changes.
use Rattle.lx_console.proofs.Imports.{◌≡◌, ℕ, ◌+◌, ◌<◌, max, List, length, take, drop, ◌++◌, AllByRecursion, arith, ap, ◌∙◌, sym, refl}
use Rattle.lx_console.proofs.Imports.{subst, common_steps, get_or, scaled, PatchRow, ValidPatchRow, contribution, Kept, IsTable, StandsForPatch, SamePatch, SameOutputs}
use Rattle.lx_console.proofs.Imports.{level_now, out_now, Reaches, PatchesOwnChannels, SlotsStand, ShowsPlayer, IsMixedOutput}
use Rattle.lx_console.specs.declared.kept_output.KeptOutput.{KeptOutput}

-- a list written over the whole of another is itself
pub written : (n : ℕ) (xs ys : List ℕ) → length xs ≡ n → take n (xs ++ drop (length xs) ys) ≡ xs
written n xs ys is = grind (arith, common_steps)

-- outputs that were mixed, from what the submasters give and under the master
pub mixed_outs : (player : Kept) (levels contributions outs : List ℕ) (master : ℕ)
    → IsTable player.show.channels (contribution player.show player.faders) contributions → length outs ≡ player.show.channels
    → master ≡ player.master
    → ((k : ℕ) → k < length outs → get_or outs k 0 ≡ scaled (max (get_or levels k 0) (get_or contributions k 0)) master)
    → (k : ℕ) → k < length outs
    → get_or outs k 0 ≡ scaled (max (get_or levels k 0) (contribution player.show player.faders (k + 1))) player.master
mixed_outs player levels contributions outs master table reach same mixed = λ k within.
    rw (mixed k within, table.each k (omega (arith, within, reach)), same) refl

pub filled : (k : Kept) (levels : List ℕ) (output : KeptOutput) → IsTable k.show.channels (level_now k) levels → IsMixedOutput levels k output
    → ShowsPlayer k output
filled k levels output of_levels is = record {
  reaches = is.reaches;
  rows = is.rows;
  patch_stands = is.patch_stands;
  outs_stand = record {
    reach = is.reaches.outs_reach;
    each = λ i within. is.outs i (omega (arith, is.reaches.outs_reach))
        ∙ ap (λ l. scaled (max l (contribution k.show k.faders (i + 1))) k.master) (of_levels.each i within);
  };
  slots_stand = is.slots_stand;
}

-- places, table and slots stay for the same channels and rows
pub same_table : (before after : Kept) (output : KeptOutput) → SamePatch before after → StandsForPatch before.show.patch output.table
    → StandsForPatch after.show.patch output.table
same_table before after output same stands = subst (λ (rows : List PatchRow). StandsForPatch rows output.table) (sym same.patch) stands

pub same_rows : (before after : Kept) → SamePatch before after → PatchesOwnChannels before.show → PatchesOwnChannels after.show
same_rows before after same rows = subst (λ n. AllByRecursion (ValidPatchRow n) after.show.patch) (sym same.channels)
    (subst (λ (rows : List PatchRow). AllByRecursion (ValidPatchRow before.show.channels) rows) (sym same.patch) rows)

pub same_slots : (before after : Kept) (output : KeptOutput) → SamePatch before after → SlotsStand before.show.patch output
    → SlotsStand after.show.patch output
same_slots before after output same stand = subst (λ (rows : List PatchRow). SlotsStand rows output) (sym same.patch) stand

same_out : (before after : Kept) (i : ℕ) → SameOutputs before after → i < before.show.channels
    → out_now before (i + 1) ≡ out_now after (i + 1)
same_out before after i same within = rw (same.levels i within, same.contributions i within, same.master) refl

pub filled_still : (before after : Kept) (output : KeptOutput) → ShowsPlayer before output → SameOutputs before after → ShowsPlayer after output
filled_still before after output is same = record {
  reaches = subst (λ n. Reaches n output) (sym same.rows.channels) is.reaches;
  rows = same_rows before after same.rows is.rows;
  patch_stands = same_table before after output same.rows is.patch_stands;
  outs_stand = record {
    reach = is.outs_stand.reach ∙ sym same.rows.channels;
    each = λ i within.
        let there : i < before.show.channels = omega (arith, same.rows.channels) in
        is.outs_stand.each i there ∙ same_out before after i same there;
  };
  slots_stand = same_slots before after output same.rows is.slots_stand;
}
