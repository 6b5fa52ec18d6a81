-- A text that is read as looks has the levels of its looks.
use Rattle.lx_text_laws.proofs.Imports.{cases_Bool, or_right, ◌≡◌, ℕ, ◌<◌, Bool, true, false, cond, not, ◌||◌, ◌==◌, nat_le, Option, Some, None}
use Rattle.lx_text_laws.proofs.Imports.{Result, Ok, Err, List, [], ◌∷◌, map, filter, filter_map, is_some, option_and_then, refl, if◌then◌else◌}
use Rattle.lx_text_laws.proofs.Imports.{AllByRecursion, list_any, after_last, option_map_or, arith, ap, ◌∙◌, sym, subst, eqb-true, Move, Moves}
use Rattle.lx_text_laws.proofs.Imports.{States, TextFault, ◌>>=◌, desk_limits, lines_of, IsStrictlySorted, entry_at, Cue, Show, InRange, cue_of}
use Rattle.lx_text_laws.proofs.Imports.{move_in, level_in, tracked, PlacedEntry, cue_in, section_begun, clears_all, first_facts, look_moves}
use Rattle.lx_text_laws.proofs.Imports.{from_looks, by_form, Reading, entries, reads, reading_from, numbers_begun, stands_in, cue_from, show_from}
use Rattle.lx_text_laws.proofs.Imports.{inl, inr}
use Rattle.lx_spec.specs.EditedShow.{channels_of}
use Rattle.lx_spec.proofs.Along.{tracked_on, along, tracked-along, step_in, along-past}
use Rattle.lx_spec.proofs.MovesFor.{passes_among}
use Rattle.lx_spec.proofs.SortedLists.{found_number, found_valid}
use Rattle.lx_reader.proofs.PlacedNumbers.{IsStrictlySorted-numbers}
use Rattle.lx_text_laws.proofs.SortedGroups.{IsStrictlySorted-map}

-- The moves of a look.
abbrev look_of : Show → (ℕ → ℕ) → Cue → Cue
look_of show before cue = record cue { moves = look_moves show before cue }

-- the level that a channel has without a move
abbrev kept : (ℕ → ℕ) → Cue → ℕ → ℕ
kept before cue c = if cue.block then 0 else before c

abbrev made : Cue → ℕ → Move
made cue c = record { chan = c; part = option_map_or (λ m. m.part) (move_in cue c) 1; level = level_in cue c }

move_found : (cue : Cue) (cs : List ℕ) (c : ℕ)
    → entry_at (λ m. m.chan) c (map (made cue) cs) ≡ cond (list_any (λ d. d == c) cs) (Some (made cue c)) None
move_found cue [] c = refl
move_found cue (d ∷ cs) c = elim (cases_Bool (d == c)) [
  | inl is ↦ rw is (ap (λ k. Some (made cue k)) (eqb-true d c is))
  | inr other ↦ rw other (move_found cue cs c)
]

look_move : (show : Show) (before : ℕ → ℕ) (cue : Cue) (c : ℕ) → InRange show.channels c
    → move_in (look_of show before cue) c ≡ cond (not (level_in cue c == kept before cue c)) (Some (made cue c)) None
look_move show before cue c range =
    let changed = λ (d : ℕ). not (level_in cue d == kept before cue d) in
    move_found cue (filter changed (channels_of show)) c
    ∙ ap (λ b. cond b (Some (made cue c)) None) (passes_among show changed c range)

abbrev by_move : Bool → Option Move → ℕ → ℕ
by_move block o level = cond (block || is_some o) (option_map_or (λ m. m.level) o 0) level

kept_level : (block : Bool) (l before : ℕ) → (l == (if block then 0 else before)) ≡ true → by_move block None before ≡ l
kept_level true l before is = sym (eqb-true l 0 is)
kept_level false l before is = sym (eqb-true l before is)

-- a look gives its level, whatever it was before
look_level : (show : Show) (before : ℕ → ℕ) (cue : Cue) (c level : ℕ) → InRange show.channels c → level ≡ before c
    → tracked_on c (look_of show before cue) level ≡ level_in cue c
look_level show before cue c level range was =
    let l : ℕ = level_in cue c in
    let split : (b : Bool) → (l == kept before cue c) ≡ b → by_move cue.block (cond (not b) (Some (made cue c)) None) (before c) ≡ l =
    elim [
      | true ↦ λ is. kept_level cue.block l (before c) is
      | false ↦ λ is. ap (λ v. cond v l (before c)) (or_right cue.block true refl)
    ] in
    (λ j. by_move cue.block (look_move show before cue c range j) (was j)) ∙ split (l == kept before cue c) refl

-- Along the cues.
above_kept : (show : Show) (n : ℕ) (before : ℕ → ℕ) (cues : List Cue) → AllByRecursion (λ x. n < x.number) cues
    → AllByRecursion (λ x. n < x.number) (from_looks show before cues)
above_kept show n before [] all = tt
above_kept show n before (x ∷ cues) all = (all.0, above_kept show n (level_in x) cues all.1)

looks_along : (show : Show) (before : ℕ → ℕ) (cues : List Cue) (cue : Cue) (n c level : ℕ) → InRange show.channels c
    → IsStrictlySorted (λ x. x.number) cues → level ≡ before c → entry_at (λ x. x.number) n cues ≡ Some cue
    → along n c level (from_looks show before cues) ≡ level_in cue c
looks_along show before [] cue n c level range sorted was is = cc
looks_along show before (x ∷ cues) cue n c level range sorted was is =
    let first : Cue = look_of show before x in
    let rest : List Cue = from_looks show (level_in x) cues in
    let now = look_level show before x c level range was in
    elim (cases_Bool (x.number == n)) [
      | inl same ↦
          let number : x.number ≡ n = eqb-true x.number n same in
          let found = rw same at is in
          let it : x ≡ cue = cc in
          let above = subst (λ k. AllByRecursion (λ y. k < y.number) cues) number sorted.0 in
          ap (λ v. along n c v rest) (step_in n c level first (omega (arith, number)) ∙ now)
          ∙ along-past n c (level_in x c) rest (above_kept show n (level_in x) cues above) ∙ ap (λ y. level_in y c) it
      | inr other ↦
          let found = rw other at is in
          let low : x.number < cue.number = found_valid (λ y. x.number < y.number) (λ y. y.number) n cues cue sorted.0 found in
          looks_along show (level_in x) cues cue n c (cond (nat_le x.number n) (tracked_on c first level) level) range sorted.1
          (step_in n c level first (omega (arith, low, found_number (λ y. y.number) n cues cue found)) ∙ now) found
    ]

-- The cues of a show that was read are sorted.
cues_sorted : (all : List PlacedEntry) → IsStrictlySorted (λ x. x.number) (show_from all).cues
cues_sorted all =
    IsStrictlySorted-map (λ x. x.number) (λ n. cue_from (filter (stands_in cue_in n) all) n) (numbers_begun cue_in all)
    (IsStrictlySorted-numbers (filter_map (λ e. option_and_then cue_in (section_begun e.entry)) all))

-- what a text is read as, in both forms
pub record BothForms (named looks : Reading) : Type 0 where
  pub same : looks.show ≡ by_form States named.show
  pub sorted : IsStrictlySorted (λ x. x.number) named.show.cues

both_forms : (r : Result (List PlacedEntry) TextFault) (named looks : Reading) → (r >>= (λ all. Ok (reading_from Moves all))) ≡ Ok named
    → (r >>= (λ all. Ok (reading_from States all))) ≡ Ok looks → BothForms named looks
both_forms (Ok all) named looks one other =
    let first : reading_from Moves all ≡ named = cc in
    let second : reading_from States all ≡ looks = cc in
    record {
      same = (λ j. (sym second j).show) ∙ (λ j. by_form States (first j).show);
      sorted = subst (λ r. IsStrictlySorted (λ x. x.number) r.show.cues) first (cues_sorted (after_last (λ e. clears_all e.entry) all));
    }
both_forms (Err fault) named looks one other = cc

pub look_levels : (bytes : List ℕ) (named looks : Reading) (cue : Cue) (n c : ℕ) → reads Moves bytes ≡ Ok named
    → reads States bytes ≡ Ok looks → cue_of named.show n ≡ Some cue → InRange named.show.channels c
    → tracked looks.show n c ≡ level_in cue c
look_levels bytes named looks cue n c one other there range =
    let both = both_forms (entries (first_facts desk_limits) (lines_of bytes)) named looks one other in
    ap (λ s. tracked s n c) both.same
    ∙ tracked-along (by_form States named.show) n c
    ∙ looks_along named.show (λ c. 0) named.show.cues cue n c 0 range both.sorted refl there
