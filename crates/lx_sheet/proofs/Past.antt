-- What is no channel of the show is at 0.
use Rattle.lx_sheet.proofs.Imports.{◌≡◌, ℕ, ◌<◌, List, Some, None, refl, ◌∙◌, ap, zero, suc, arith, Option, IfSome, reverse, nat_le, ◌==◌, ◌&&◌}
use Rattle.lx_sheet.proofs.Imports.{option_map_or, Move, Cue, Show, Valid, ValidCue, decides, level_in, move_in, tracked, Place, level_by, rows_of}
use Rattle.lx_sheet.proofs.Imports.{row_at_place, cue_level, last_value, IsStrictlySorted, map, eq_below, all_reverse, each, find_none, found_has}
use Rattle.lx_sheet.proofs.Cells.{cell_past}
use Rattle.lx_sheet.proofs.Numbers.{count_up_to}
use Rattle.lx_sheet.proofs.Rows.{level_of_block}

no_level : (channels c : ℕ) (cue : Cue) → channels < c → ValidCue channels cue → level_in cue c ≡ 0
no_level channels c cue past valid =
    let none : move_in cue c ≡ None = find_none (λ m. m.chan == c) cue.moves
    (each _ _ cue.moves (λ m h. eq_below m.chan c (omega (arith, h.chan.most))) valid.moves) in
    ap (λ (o : Option Move). option_map_or (λ m. m.level) o 0) none

no_level_found : (channels c : ℕ) (o : Option Cue) → channels < c → IfSome o (ValidCue channels)
    → option_map_or (λ cue. level_in cue c) o 0 ≡ 0
no_level_found channels c None past valid = refl
no_level_found channels c (Some cue) past valid = no_level channels c cue past valid

pub tracked_past : (show : Show) (n c : ℕ) → Valid show → show.channels < c → tracked show n c ≡ 0
tracked_past show n c valid past =
    no_level_found show.channels c _ past (found_has (ValidCue show.channels) (λ cue. nat_le cue.number n && decides cue c)
    (reverse show.cues) _ refl (all_reverse (ValidCue show.channels) show.cues valid.cues))

last_zero : (count : ℕ) (f : ℕ → ℕ) → ((k : ℕ) → f k ≡ 0) → last_value count f ≡ 0
last_zero zero f none = refl
last_zero (suc k) f none = none k

pub level_of_past : (channels : ℕ) (order : List Place) (levels : List ℕ) (n c : ℕ) → IsStrictlySorted (λ p. p.cue) order → channels < c
    → level_by (rows_of channels order levels) n c ≡ 0
level_of_past channels order levels n c sorted past =
    level_of_block channels order levels n c sorted
    ∙ last_zero (count_up_to n (map (λ (p : Place). p.cue) order)) (λ k. cue_level channels order levels k c)
    (λ k. cell_past channels levels (row_at_place order k) c past)
