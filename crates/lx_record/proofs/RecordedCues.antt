-- The recorded cue, and what tracks at it and through it.
use Rattle.lx_record.proofs.Imports.{◌≡◌, ℕ, ◌<◌, Bool, true, false, cond, not, List, [], ◌∷◌, map, Some, None, Ok, Err, refl}
use Rattle.lx_record.proofs.Imports.{◌∙◌, sym, ap, inl, inr, arith, Option, filter, fold, is_some, ◌==◌, ◌||◌, or_parts}
use Rattle.lx_record.proofs.Imports.{nat_lt, length, unwrap_or, option_map_or, cases_Bool, nat_tests, CUES, Move, Member}
use Rattle.lx_record.proofs.Imports.{CueLimit, IsStrictlySorted, entry_at, placed, Cue, Show, InRange, cue_above}
use Rattle.lx_record.proofs.Imports.{cue_of, move_in, tracked, new_cue, with_cue, with_levels, part_for, channels_of, cue_only, kept_above}
use Rattle.lx_record.proofs.Imports.{untracked, with_recorded, kept, entry_number, entry_at-placed_here}
use Rattle.lx_record.proofs.Imports.{placed_again, cue_or_new, above_higher, level_from, into, tracked_at, tracked_here}
use Rattle.lx_spec.proofs.MovesFor.{placed_moves, passes_among, moved_level}

map_twice : {A B C : Type 0} (g : B → C) (f : A → B) (xs : List A) → map g (map f xs) ≡ map (λ x. g (f x)) xs
map_twice g f [] = refl
map_twice g f (x ∷ xs) = ap (λ ys. g (f x) ∷ ys) (map_twice g f xs)

-- the channel's move to its level, in the part of the move that it had, or in part 1
abbrev pub stage_move : (ℕ → ℕ) → Cue → ℕ → Move
stage_move levels cue c = record { chan = c; part = part_for None cue c; level = levels c }

-- the channel's level isn't the tracked one
abbrev pub is_untracked : (ℕ → ℕ) → Show → ℕ → ℕ → Bool
is_untracked levels show n c = not (levels c == tracked show n c)

abbrev pub recorded_cue : (ℕ → ℕ) → Show → ℕ → Cue
recorded_cue levels show n = with_levels None (cue_or_new show n) (untracked levels show n)

-- the move of a channel in the recorded cue
pub move_in-recorded : (levels : ℕ → ℕ) (show : Show) (n c : ℕ) (cue : Cue) → InRange show.channels c
    → move_in (with_levels None cue (untracked levels show n)) c
    ≡ cond (is_untracked levels show n c) (Some (stage_move levels cue c)) (move_in cue c)
move_in-recorded levels show n c cue range =
    let put = λ (ms : List Move) (m : Move). placed (λ (x : Move). x.chan) m ms in
    ap (λ (ms : List Move). entry_at (λ (m : Move). m.chan) c (fold put cue.moves ms))
    (map_twice (λ (m : Member). record { chan = m.chan; part = part_for None cue m.chan; level = m.level })
    (λ (d : ℕ). record { chan = d; level = levels d }) (filter (is_untracked levels show n) (channels_of show)))
    ∙ placed_moves (stage_move levels cue) (λ d. refl) (filter (is_untracked levels show n) (channels_of show)) cue.moves c
    ∙ ap (λ b. cond b (Some (stage_move levels cue c)) (move_in cue c)) (passes_among show (is_untracked levels show n) c range)

pub number_of : (show : Show) (n : ℕ) (o : Option Cue) → cue_of show n ≡ o → (unwrap_or o (new_cue n)).number ≡ n
number_of show n None is = refl
number_of show n (Some cue) is = entry_number (λ (x : Cue). x.number) n show.cues cue is

equal_is : (a b : ℕ) → not (a == b) ≡ false → a ≡ b
equal_is a b same = grind (arith, nat_tests)

pub recorded_number : (levels : ℕ → ℕ) (show : Show) (n : ℕ) → (recorded_cue levels show n).number ≡ n
recorded_number levels show n = number_of show n (cue_of show n) refl

new_or_none : (n c base : ℕ) (o : Option Cue) → level_from (Some (unwrap_or o (new_cue n))) c base ≡ level_from o c base
new_or_none n c base None = refl
new_or_none n c base (Some cue) = refl

-- the tracked level at the recorded cue
pub level_recorded : (levels : ℕ → ℕ) (show : Show) (n c : ℕ) → IsStrictlySorted (λ x. x.number) show.cues → InRange show.channels c
    → tracked (with_cue show (recorded_cue levels show n)) n c ≡ levels c
level_recorded levels show n c sorted range =
    let cue : Cue = cue_or_new show n in
    let base : ℕ = into show n c in
    let moves = move_in-recorded levels show n c cue range in
    tracked_here show n c (Some (recorded_cue levels show n)) (recorded_number levels show n) sorted
    ∙ elim (cases_Bool (is_untracked levels show n c)) [
      | inl passes ↦ moved_level (recorded_cue levels show n) c base (stage_move levels cue c)
          (moves ∙ ap (λ b. cond b (Some (stage_move levels cue c)) (move_in cue c)) passes)
      | inr fails ↦ ap (λ (o : Option Move). cond (cue.block || is_some o) (option_map_or (λ x. x.level) o 0) base)
          (moves ∙ ap (λ b. cond b (Some (stage_move levels cue c)) (move_in cue c)) fails)
          ∙ new_or_none n c base (cue_of show n) ∙ sym (tracked_at show n c sorted) ∙ sym (equal_is (levels c) (tracked show n c) fails)
    ]

-- The record, as a change of one cue. A cue that is made again changes nothing that tracks at its number.
tracked_made : (show : Show) (n c : ℕ) → IsStrictlySorted (λ x. x.number) show.cues → cue_of show n ≡ None
    → tracked (with_cue show (new_cue n)) n c ≡ tracked show n c
tracked_made show n c sorted none = tracked_here show n c (Some (new_cue n)) refl sorted
    ∙ sym (tracked_at show n c sorted ∙ ap (λ (o : Option Cue). level_from o c (into show n c)) none)

-- the record of a cue that is made
recorded_new : (levels : ℕ → ℕ) (show : Show) (n : ℕ) (only : Bool) → IsStrictlySorted (λ x. x.number) show.cues → cue_of show n ≡ None
    → nat_lt (length show.cues) CUES ≡ true
    → with_recorded levels show n only ≡ Ok (cue_only only show n (with_cue show (with_levels None (new_cue n) (untracked levels show n))))
recorded_new levels show n only sorted none room =
    let with_new : Show = with_cue show (new_cue n) in
    let same : is_untracked levels with_new n ≡ is_untracked levels show n = λ i c. not (levels c == tracked_made show n c sorted none i) in
    rw (none, room, entry_at-placed_here (λ (x : Cue). x.number) n (new_cue n) show.cues refl)
    (ap (λ (p : ℕ → Bool). Ok (cue_only only show n (with_cue with_new (with_levels None (new_cue n)
    (map (λ c. record { chan = c; level = levels c }) (filter p (channels_of show))))))) same
    ∙ ap (λ (cues : List Cue). Ok (cue_only only show n (record show { cues = cues })))
    (placed_again (λ (x : Cue). x.number) (new_cue n) (with_levels None (new_cue n) (untracked levels show n)) show.cues refl))

recorded_by : (levels : ℕ → ℕ) (show : Show) (n : ℕ) (only : Bool) (o : Option Cue) → IsStrictlySorted (λ x. x.number) show.cues
    → cue_of show n ≡ o → (is_some o || nat_lt (length show.cues) CUES) ≡ true
    → with_recorded levels show n only
    ≡ Ok (cue_only only show n (with_cue show (with_levels None (unwrap_or o (new_cue n)) (untracked levels show n))))
recorded_by levels show n only None sorted is room = recorded_new levels show n only sorted is room
recorded_by levels show n only (Some cue) sorted is room = rw (is, is) refl

pub recorded_is : (levels : ℕ → ℕ) (show : Show) (n : ℕ) (only : Bool) → IsStrictlySorted (λ x. x.number) show.cues
    → (is_some (cue_of show n) || nat_lt (length show.cues) CUES) ≡ true
    → with_recorded levels show n only ≡ Ok (cue_only only show n (with_cue show (recorded_cue levels show n)))
recorded_is levels show n only sorted room = recorded_by levels show n only (cue_of show n) sorted refl room

-- where there is no room for the cue
pub recorded_full : (levels : ℕ → ℕ) (show : Show) (n : ℕ) (only : Bool)
    → (is_some (cue_of show n) || nat_lt (length show.cues) CUES) ≡ false → with_recorded levels show n only ≡ Err CueLimit
recorded_full levels show n only full =
    let both = or_parts (is_some (cue_of show n)) (nat_lt (length show.cues) CUES) full in
    rw (both.0, both.1) refl

-- what holds where the cue is recorded holds with the cue above too, which keeps its levels
only_by : (P : Show → Type 0) (before after : Show) (n : ℕ) (o : Option Cue) → cue_above after n ≡ o → P after
    → ((x : Cue) → n < x.number → P (with_cue after (kept before after x))) → P (option_map_or (kept_above before after) o after)
only_by P before after n None is here above = here
only_by P before after n (Some x) is here above = above x (above_higher after n x is)

pub only_has : (P : Show → Type 0) (before after : Show) (n : ℕ) (only : Bool) → P after
    → ((x : Cue) → n < x.number → P (with_cue after (kept before after x))) → P (cue_only only before n after)
only_has P before after n false here above = here
only_has P before after n true here above = only_by P before after n (cue_above after n) refl here above
