-- At the opening every slot is 0.
use Rattle.lx_gate.proofs.Imports.{◌≡◌, ℕ, zero, suc, ◌+◌, ◌-◌, ◌*◌, ◌/◌, ◌≤◌, max, Bool, false, cond, List, [], ◌∷◌, map}
use Rattle.lx_gate.proofs.Imports.{take, replicate, get_or, length, Some, None, refl, sym, ap, ◌∙◌, arith, fold, nat_le, AllByRecursion, nat_tests}
use Rattle.lx_gate.proofs.Imports.{take-replicate, drop-replicate, SUBS, SLOTS, Show, Cue, Valid, ValidCue, opened, frame, out, contribution, level_among}
use Rattle.lx_gate.proofs.Imports.{dimmer_value, dimmers_of}
use Rattle.std.specs.Option.{option_map_or}
use Rattle.std.specs.declared.option.Option.{Option}
use Rattle.std.proofs.lemmas.List.FromFn.{length-range_with_len}
use Rattle.lx_base.specs.Numbers.{scaled}
use Rattle.lx_spec.specs.declared.PatchRow.{PatchRow}
use Rattle.lx_spec.specs.Run.{greatest}
use Rattle.lx_spec.specs.SortedList.{entry_at}
use Rattle.lx_spec.proofs.Along.{along, tracked_on, tracked-along}
use Rattle.lx_gate.specs.Frames.{AreFramesOf, frame_after}

dark_along : (c channels : ℕ) (cues : List Cue) → AllByRecursion (ValidCue channels) cues → along 0 c 0 cues ≡ 0
dark_along c channels [] h = refl
dark_along c channels (cue ∷ cues) h =
    let above : 1 ≤ cue.number = h.0.number.least in
    let test : nat_le cue.number 0 ≡ false = grind (arith, nat_tests) in
    ap (λ (b : Bool). along 0 c (cond b (tracked_on c cue 0) 0) cues) test ∙ dark_along c channels cues h.1

greatest_zero : {X : Type 0} (f : X → ℕ) (xs : List X) → ((x : X) → f x ≡ 0) → greatest (map f xs) ≡ 0
greatest_zero f [] h = refl
greatest_zero f (x ∷ xs) h = ap (λ (n : ℕ). fold max (max 0 n) (map f xs)) (h x) ∙ greatest_zero f xs h

get_zero : (n k : ℕ) → get_or (replicate {A = ℕ} n 0) k 0 ≡ 0
get_zero zero k = refl
get_zero (suc n) zero = refl
get_zero (suc n) (suc k) = get_zero n k

scaled_zero : (x : ℕ) → scaled x 0 ≡ 0
scaled_zero x = let e : x * 0 ≡ 0 = omega arith in ap (λ (n : ℕ). n / 255) e

scaled_from_zero : (y : ℕ) → scaled 0 y ≡ 0
scaled_from_zero y = let e : 0 * y ≡ 0 = omega arith in ap (λ (n : ℕ). n / 255) e

nothing_given : (show : Show) (c : ℕ) → contribution show (replicate SUBS 0) c ≡ 0
nothing_given show c = greatest_zero _ show.subs
    (λ sub. ap (scaled (level_among sub.members c)) (get_zero SUBS (sub.number - 1)) ∙ scaled_zero (level_among sub.members c))

no_out : (show : Show) (c : ℕ) → Valid show → out (opened show) c ≡ 0
no_out show c v =
    ap (λ (n : ℕ). scaled (max n (contribution show (replicate SUBS 0) c)) 255)
    (tracked-along show 0 c ∙ dark_along c show.channels show.cues v.cues)
    ∙ (ap (λ (n : ℕ). scaled (max 0 n) 255) (nothing_given show c) ∙ scaled_from_zero 255)

row_zero : (outs : ℕ → ℕ) (o : Option PatchRow) → ((c : ℕ) → outs c ≡ 0) → option_map_or (λ row. scaled (outs row.chan) row.level) o 0 ≡ 0
row_zero outs None h = refl
row_zero outs (Some row) h = ap (λ (n : ℕ). scaled n row.level) (h row.chan) ∙ scaled_from_zero row.level

map_zero : (f : ℕ → ℕ) (xs : List ℕ) → ((x : ℕ) → f x ≡ 0) → map f xs ≡ replicate {A = ℕ} (length xs) 0
map_zero f [] h = refl
map_zero f (x ∷ xs) h = ap (λ (n : ℕ). n ∷ map f xs) (h x) ∙ ap (λ (ys : List ℕ). 0 ∷ ys) (map_zero f xs h)

pub dark_frame : (show : Show) (u : ℕ) → Valid show → frame (opened show) u ≡ replicate {A = ℕ} 512 0
dark_frame show u v =
    map_zero (dimmer_value show.patch (out (opened show))) (dimmers_of u)
    (λ e. row_zero (out (opened show)) (entry_at (λ row. row.dimmer) e show.patch) (λ c. no_out show c v))
    ∙ ap (λ (n : ℕ). replicate {A = ℕ} n 0) (length-range_with_len (512 * (u - 1) + 1) 512)

-- the desk is dark at its opening
pub dark : (show : Show) → Valid show → AreFramesOf show [] (replicate SLOTS 0)
unfolding AreFramesOf frame_after
dark show v = λ u low high.
    ap (λ (w : List ℕ). take 512 w) (drop-replicate {X = ℕ} (512 * (u - 1)) SLOTS 0)
    ∙ (take-replicate {X = ℕ} 512 (SLOTS - 512 * (u - 1)) 0 (omega (arith, low, high)) ∙ sym (dark_frame show u v))
