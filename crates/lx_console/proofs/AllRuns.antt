-- The console's levels and slots are those over all runs since the opening.
use Rattle.lx_console.proofs.Imports.{◌≡◌, ℕ, ◌+◌, ◌-◌, ◌*◌, ◌<◌, ◌≤◌, max, List, length, take, drop, map, range_with_len, arith}
use Rattle.lx_console.proofs.Imports.{get_or, ◌∙◌, ap, sym, subst, common_steps, ext_get_or, SLOTS, UNIVERSES, UNIVERSE_SLOTS, scaled, level}
use Rattle.lx_console.proofs.Imports.{contribution, dimmer_value, out, frame, Desk, Kept, kept, KeepsRest, IsTable, StandsFor, level_now, out_now}
use Rattle.std.proofs.lemmas.List.FromFn.{length-map-range_with_len, get_or-map-range_with_len}
use Rattle.lx_spec.proofs.Rest.{level-rest}
use Rattle.lx_console.specs.Slots.{universe}

-- the live runs over the base give the level that all runs give
pub over_all : (d : Desk) → KeepsRest d → (c : ℕ) → level_now (kept d) c ≡ level d.show 0 d.all c d.playback.moment
over_all d rest c = sym (
    ap (λ runs. level d.show 0 runs c d.playback.moment) rest.all_is
    ∙ level-rest d.show d.playback.base rest.from d.playback.live rest.older c d.playback.moment rest.base_is (rest.still d.show c)
    rest.later rest.begun
    )

outputs : (d : Desk) → KeepsRest d → out_now (kept d) ≡ out d
outputs d rest = λ i c. scaled (max (over_all d rest c i) (contribution d.show d.faders c)) d.master

pub levels_of_all : (d : Desk) (console : Kept) (levels : List ℕ) → StandsFor d console
    → IsTable console.show.channels (level_now console) levels
    → IsTable d.show.channels (λ c. level d.show 0 d.all c d.playback.moment) levels
levels_of_all d console levels stands table =
    let here = subst (λ (k : Kept). IsTable k.show.channels (level_now k) levels) stands.same table in
    record { reach = here.reach; each = λ k within. here.each k within ∙ over_all d stands.rest (k + 1) }

slots_of_all : (d : Desk) (console : Kept) (slots : List ℕ) → StandsFor d console
    → IsTable SLOTS (dimmer_value console.show.patch (out_now console)) slots → IsTable SLOTS (dimmer_value d.show.patch (out d)) slots
slots_of_all d console slots stands table =
    subst (λ (outs : ℕ → ℕ). IsTable SLOTS (dimmer_value d.show.patch outs) slots) (outputs d stands.rest)
    (subst (λ (k : Kept). IsTable SLOTS (dimmer_value k.show.patch (out_now k)) slots) stands.same table)

-- a part of a table
pub part : (n a m : ℕ) (value : ℕ → ℕ) (values : List ℕ) → IsTable n value values → a + m ≤ n
    → take m (drop a values) ≡ map value (range_with_len (a + 1) m)
part n a m value values table within =
    let reach : length values ≡ n = table.reach in
    let long : length (take m (drop a values)) ≡ m = grind (arith, common_steps) in
    ext_get_or 0 (take m (drop a values)) (map value (range_with_len (a + 1) m)) (long ∙ sym (length-map-range_with_len value (a + 1) m))
    (λ k below.
    let here : k < m = omega arith in
    let read : get_or (take m (drop a values)) k 0 ≡ get_or values (a + k) 0 = grind (arith, common_steps) in
    read ∙ table.each (a + k) (omega arith) ∙ sym (get_or-map-range_with_len value (a + 1) m k (a + k + 1) 0 here (omega arith)))

-- the slots of a universe are its frame
pub frame_of_all : (d : Desk) (console : Kept) (slots : List ℕ) (u : ℕ) → StandsFor d console
    → IsTable SLOTS (dimmer_value console.show.patch (out_now console)) slots → 1 ≤ u → u ≤ UNIVERSES → universe u slots ≡ frame d u
frame_of_all d console slots u stands table least most =
    part SLOTS (UNIVERSE_SLOTS * (u - 1)) UNIVERSE_SLOTS (dimmer_value d.show.patch (out d)) slots
    (slots_of_all d console slots stands table) (omega arith)
