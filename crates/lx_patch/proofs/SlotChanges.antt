-- Slots that follow outputs which changed, channel by channel.
use Rattle.lx_patch.proofs.Imports.{◌≡◌, ℕ, ◌+◌, ◌-◌, ◌<◌, ◌≤◌, Option, Some, None, List, length, option_map_or, arith, get_or, refl, ◌∙◌, ap, sym}
use Rattle.lx_patch.proofs.Imports.{inl, inr, cases_lt, SLOTS, scaled, Agree, PatchRow, entry_at, dimmer_value, IsTable, DimmerTable, StandsForPatch}
use Rattle.lx_patch.proofs.Imports.{ReachTable, AreDarkFrom, AreSlots, IsFollowed}

-- in proportion to 0 everything is 0
pub nothing : (x y : ℕ) → y ≡ 0 → scaled x y ≡ 0
nothing x y dark = ap (scaled x) dark ∙ none where
  none : scaled x 0 ≡ 0
  none = grind arith

-- the value of a dimmer is the output at its place, in proportion to its level
pub slot_value : (rows : List PatchRow) (table : DimmerTable) (outs : List ℕ) (e : ℕ) → StandsForPatch rows table → e < SLOTS
    → dimmer_value rows (λ c. get_or outs (c - 1) 0) (e + 1) ≡ scaled (get_or outs (get_or table.places e 0) 0) (get_or table.levels e 0)
slot_value rows table outs e stands within =
    rw (stands.places.each e within, stands.levels.each e within) (of_row (entry_at (λ row. row.dimmer) (e + 1) rows)) where
      of_row : (o : Option PatchRow) → option_map_or (λ r. scaled (get_or outs (r.chan - 1) 0) r.level) o 0
          ≡ scaled (get_or outs (option_map_or (λ r. r.chan - 1) o 0) 0) (option_map_or (λ r. r.level) o 0)
      of_row (Some row) = refl
      of_row None = sym (nothing (get_or outs 0 0) 0 refl)

module _ {rows : List PatchRow} {table : DimmerTable} {before outs slots now : List ℕ} {from : ℕ} (stands : StandsForPatch rows table)
    (values : IsTable SLOTS (dimmer_value rows (λ c. get_or before (c - 1) 0)) slots)
    (followed : AreSlots table.places table.levels before slots 0 SLOTS → IsFollowed table.places table.levels before outs now SLOTS from) where
  -- what was followed so far, from slots that were those of the outputs before
  so_far : IsFollowed table.places table.levels before outs now SLOTS from
  so_far = followed (λ e least within. values.each e within ∙ slot_value rows table before e stands within)

  -- all that are left agree
  pub table_of_all : length before ≡ length outs → from ≤ length before → Agree before outs from (length before)
      → ReachTable (length outs) table → length now ≡ SLOTS → IsTable SLOTS (dimmer_value rows (λ c. get_or outs (c - 1) 0)) now
  table_of_all same most agree reaches reach = record {
    reach = reach;
    each = λ e within. elim (cases_lt (get_or table.places e 0) from) [
      | inl low ↦ so_far.done e within low
      | inr high ↦ so_far.left e within high ∙ (elim (reaches e within) [
        | inl below ↦ ap (λ n. scaled n (get_or table.levels e 0)) (agree (get_or table.places e 0) high (omega (arith, same, below)))
        | inr none ↦ nothing (get_or before (get_or table.places e 0) 0) (get_or table.levels e 0) none.1
            ∙ sym (nothing (get_or outs (get_or table.places e 0) 0) (get_or table.levels e 0) none.1)
      ])
    ] ∙ sym (slot_value rows table outs e stands within);
  }

  -- or all that are lit are filled in at once
  pub table_of_lit : {after : List ℕ} {top : ℕ} → AreDarkFrom table.levels top → AreSlots table.places table.levels outs after 0 top
      → ((e : ℕ) → top ≤ e → get_or after e 0 ≡ get_or now e 0) → length after ≡ SLOTS
      → IsTable SLOTS (dimmer_value rows (λ c. get_or outs (c - 1) 0)) after
  table_of_lit {top = top} above filled others reach = record {
    reach = reach;
    each = λ e within. elim (cases_lt e top) [
      | inl low ↦ filled e (omega arith) low
      | inr high ↦
          let unlit = above e high (omega (arith, stands.levels.reach)) in
          others e high ∙ dark e within unlit ∙ sym (nothing (get_or outs (get_or table.places e 0) 0) (get_or table.levels e 0) unlit)
    ] ∙ sym (slot_value rows table outs e stands within);
  } where
    dark : (e : ℕ) → e < SLOTS → get_or table.levels e 0 ≡ 0 → get_or now e 0 ≡ 0
    dark e within unlit = elim (cases_lt (get_or table.places e 0) from) [
      | inl low ↦ so_far.done e within low ∙ nothing (get_or outs (get_or table.places e 0) 0) (get_or table.levels e 0) unlit
      | inr high ↦ so_far.left e within high ∙ nothing (get_or before (get_or table.places e 0) 0) (get_or table.levels e 0) unlit
    ]

-- the table of what is lent of another
pub same_table : {table inside : DimmerTable} {places levels : List ℕ} → places ≡ inside.places → levels ≡ inside.levels → inside ≡ table
    → table ≡ record { places = places; levels = levels }
same_table places_are levels_are is = sym ((λ i. record { places = places_are i; levels = levels_are i }) ∙ is)
