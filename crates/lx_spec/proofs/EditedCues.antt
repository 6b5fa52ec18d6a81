-- Edits of one cue, by what stands around it: the laws of cue only and of block.
use Rattle.lx_spec.proofs.Imports.{◌≡◌, ◌≢◌, ℕ, ◌+◌, ◌-◌, ◌≤◌, true, false, cond, not, List, [], ◌∷◌, ◌++◌, map, Some, None}
use Rattle.lx_spec.proofs.Imports.{Ok, Err, refl, ◌∙◌, sym, ap, inl, inr, arith, Option, Result, IsTrue, is_some, is_none, ◌==◌}
use Rattle.lx_spec.proofs.Imports.{◌&&◌, option_map_or, AllByRecursion, cases_lt, false≢true, nat_tests, Edit, DeleteCue, Set}
use Rattle.lx_spec.proofs.Imports.{SetGroup, Release, Block, Unblock, Move, Refusal, ◌>>=◌, IsStrictlySorted, entries_below, entries_above, Cue, Show}
use Rattle.lx_spec.proofs.Imports.{Valid, ValidCue, InRange, tracked, cue_of, move_in, level_in, edited, cue_only, the_cue, the_given_part, the_channels}
use Rattle.lx_spec.proofs.Imports.{the_group, the_moves, with_cue, without_cue, with_levels, without_moves, all_at, in_proportion}
use Rattle.lx_spec.proofs.Imports.{blocked, unblocked, cue_alone, is_block_edit}
use Rattle.lx_spec.proofs.Along.{tracked_on, along, tracked-along, along-append, along-past, along-same, step_in, step_out}
use Rattle.lx_spec.proofs.MovesFor.{on_moves}
use Rattle.lx_spec.proofs.CueOnly.{IsAround, kept_alone, tracked_low}
use Rattle.lx_spec.proofs.Lists.{decided, each}
use Rattle.lx_spec.proofs.SortedLists.{below_and_above, IsStrictlySorted-filter, all_above, all_below, entry_number, found_valid, split_there}

-- a step that was not refused
pub bind_ok : {A B E : Type 0} (r : Result A E) (next : A → Result B E) (y : B) → (r >>= next) ≡ Ok y
    → (x : A) × (r ≡ Ok x) × (next x ≡ Ok y)
bind_ok (Ok x) next y is = (x, refl, is)
bind_ok (Err e) next y is = cc

pub ok_is : {A E : Type 0} (x y : A) → ◌≡◌ {A = Result A E} (Ok x) (Ok y) → x ≡ y
ok_is x y is = cc

there_is : (o : Option Cue) (refusal : Refusal) (cue : Cue) → option_map_or Ok o (Err refusal) ≡ Ok cue → o ≡ Some cue
there_is None refusal cue is = cc
there_is (Some x) refusal cue is = cc

-- the cues around an edited cue, before and after
pub around_cue : (show : Show) (n : ℕ) (cue : Cue) → IsStrictlySorted (λ x. x.number) show.cues → cue_of show n ≡ Some cue
    → IsAround n show.cues (entries_below (λ x. x.number) n show.cues) (cue ∷ []) (entries_above (λ x. x.number) n show.cues)
around_cue show n cue sorted found = record {
  is = split_there (λ (x : Cue). x.number) n cue show.cues sorted found;
  low = all_below (λ (x : Cue). x.number) n show.cues;
  at = (entry_number (λ (x : Cue). x.number) n show.cues cue found, tt);
  high = all_above (λ (x : Cue). x.number) n show.cues;
  sorted = IsStrictlySorted-filter (λ (x : Cue). x.number) _ show.cues sorted;
}

pub around_placed : (show : Show) (n : ℕ) (cue : Cue) → IsStrictlySorted (λ x. x.number) show.cues → cue.number ≡ n
    → IsAround n (with_cue show cue).cues (entries_below (λ x. x.number) n show.cues) (cue ∷ []) (entries_above (λ x. x.number) n show.cues)
around_placed show n cue sorted number = record {
  is = ap (λ m. entries_below (λ (x : Cue). x.number) m show.cues ++ (cue ∷ entries_above (λ x. x.number) m show.cues)) number;
  low = all_below (λ (x : Cue). x.number) n show.cues;
  at = (number, tt);
  high = all_above (λ (x : Cue). x.number) n show.cues;
  sorted = IsStrictlySorted-filter (λ (x : Cue). x.number) _ show.cues sorted;
}

pub around_absent : (show : Show) (n : ℕ) → IsStrictlySorted (λ x. x.number) show.cues
    → IsAround n (without_cue show n).cues (entries_below (λ x. x.number) n show.cues) [] (entries_above (λ x. x.number) n show.cues)
around_absent show n sorted = record {
  is = sym (below_and_above (λ (x : Cue). x.number) n show.cues sorted);
  low = all_below (λ (x : Cue). x.number) n show.cues;
  at = tt;
  high = all_above (λ (x : Cue). x.number) n show.cues;
  sorted = IsStrictlySorted-filter (λ (x : Cue). x.number) _ show.cues sorted;
}

none_named : (n : ℕ) → None ≡ Some n → ⊥
none_named n is = cc

module _ (show after : Show) (n k c : ℕ) (valid : Valid show) (there : IsTrue (is_some (cue_of show k))) (apart : k ≢ n)
    (range : InRange show.channels c) where
  -- an accepted edit of one cue alone, by what the edit leaves at its number
  only_at : (m : ℕ) (cue : Cue) (changed : Show) (left : List Cue) → Some m ≡ Some n → the_cue show m ≡ Ok cue
      → (cue.number ≡ m → IsAround m changed.cues (entries_below (λ x. x.number) m show.cues) left (entries_above (λ x. x.number) m show.cues))
      → ◌≡◌ {A = Result Show Refusal} (Ok (cue_only true show m changed)) (Ok after) → tracked after k c ≡ tracked show k c
  only_at m cue changed left named is around made =
      let found = there_is (cue_of show m) _ cue is in
      let same : m ≡ n = cc named in
      ap (λ (s : Show). tracked s k c) (sym (ok_is _ after made))
      ∙ kept_alone show changed m k c _ (cue ∷ []) left _ (around_cue show m cue valid.cues_sorted found)
      (around (entry_number (λ (x : Cue). x.number) m show.cues cue found)) range (λ at. apart (at ∙ same)) there

  -- the law of cue only, with the number that the edit names
  pub alone : (edit : Edit) → cue_alone edit ≡ Some n → edited show edit ≡ Ok after → tracked after k c ≡ tracked show k c
  alone (DeleteCue m true) named is =
      let a = bind_ok (the_cue show m) _ after is in
      only_at m a.0 (without_cue show m) [] named a.1 (λ number. around_absent show m valid.cues_sorted) a.2
  alone (Set m part range level true) named is =
      let a = bind_ok (the_cue show m) _ after is in
      let b = bind_ok (the_given_part a.0 part) _ after a.2 in
      let d = bind_ok (the_channels show range) _ after b.2 in
      let new = with_levels part a.0 (all_at level d.0) in
      only_at m a.0 (with_cue show new) (new ∷ []) named a.1 (around_placed show m new valid.cues_sorted) d.2
  alone (SetGroup m part g level true) named is =
      let a = bind_ok (the_cue show m) _ after is in
      let b = bind_ok (the_given_part a.0 part) _ after a.2 in
      let d = bind_ok (the_group show g) _ after b.2 in
      let new = with_levels part a.0 (map (in_proportion level) (d.0).members) in
      only_at m a.0 (with_cue show new) (new ∷ []) named a.1 (around_placed show m new valid.cues_sorted) d.2
  alone (Release m range true) named is =
      let a = bind_ok (the_cue show m) _ after is in
      let b = bind_ok (the_channels show range) _ after a.2 in
      let d = bind_ok (the_moves a.0 b.0) _ after b.2 in
      let new = without_moves a.0 range in
      only_at m a.0 (with_cue show new) (new ∷ []) named a.1 (around_placed show m new valid.cues_sorted) d.2
  alone other named is = absurd (none_named n named)

-- What no move was needed for is at 0, or has a move: of a cue that becomes a block cue, and of one that becomes none.
block_level : (o : Option Move) (before now : ℕ) → now ≡ cond (is_some o) (option_map_or (λ m. m.level) o 0) before
    → cond (is_none o && not (now == 0)) now (option_map_or (λ m. m.level) o 0) ≡ now
block_level None before now is = grind (arith, nat_tests)
block_level (Some m) before now is = sym is

unblock_level : (o : Option Move) (before : ℕ)
    → cond (is_none o && not (before == 0)) 0 (cond (is_some o) (option_map_or (λ m. m.level) o 0) before)
    ≡ option_map_or (λ m. m.level) o 0
unblock_level None before = grind (arith, nat_tests)
unblock_level (Some m) before = refl

-- the law of block, on one channel at one number
module _ (show : Show) (k c : ℕ) (valid : Valid show) (range : InRange show.channels c) (n : ℕ) (cue : Cue) (found : cue_of show n ≡ Some cue) where
  -- the level that is tracked into the cue
  abbrev into : ℕ
  into = along k c 0 (entries_below (λ x. x.number) n show.cues)

  at_number : cue.number ≡ n
  at_number = entry_number (λ (x : Cue). x.number) n show.cues cue found

  around : IsAround n show.cues (entries_below (λ x. x.number) n show.cues) (cue ∷ []) (entries_above (λ x. x.number) n show.cues)
  around = around_cue show n cue valid.cues_sorted found

  -- the same level in the cue, whatever is tracked into it
  same_there : (new : Cue) → new.number ≡ cue.number → (n ≤ k → tracked_on c new into ≡ tracked_on c cue into)
      → tracked (with_cue show new) k c ≡ tracked show k c
  same_there new kept same =
      let below : List Cue = entries_below (λ x. x.number) n show.cues in
      let above : List Cue = entries_above (λ x. x.number) n show.cues in
      tracked-along (with_cue show new) k c
      ∙ ap (along k c 0) (around_placed show n new valid.cues_sorted (kept ∙ at_number)).is
      ∙ along-append k c 0 below (new ∷ above)
      ∙ elim (cases_lt k n) [
        | inl less ↦ ap (λ l. along k c l above) (step_out k c into new (omega (arith, kept, at_number))
            ∙ sym (step_out k c into cue (omega (arith, at_number))))
        | inr le ↦ ap (λ l. along k c l above) (step_in k c into new (omega (arith, kept, at_number)) ∙ same le
            ∙ sym (step_in k c into cue (omega (arith, at_number))))
      ]
      ∙ sym (along-append k c 0 below (cue ∷ above))
      ∙ sym (ap (along k c 0) around.is)
      ∙ sym (tracked-along show k c)

  up_to : (m : ℕ) → n ≤ m + 1 → AllByRecursion (λ (x : Cue). x.number ≤ m) (entries_below (λ x. x.number) n show.cues)
  up_to m le = each _ _ _ (λ x h. omega (arith, h, le)) around.low

  -- what is tracked at the cue, and one step below its number
  tracked_here : n ≤ k → tracked show n c ≡ tracked_on c cue into
  tracked_here le =
      let below : List Cue = entries_below (λ x. x.number) n show.cues in
      let above : List Cue = entries_above (λ x. x.number) n show.cues in
      tracked-along show n c
      ∙ ap (along n c 0) around.is
      ∙ along-append n c 0 below (cue ∷ above)
      ∙ ap (λ l. along n c l above) (step_in n c (along n c 0 below) cue (omega (arith, at_number)))
      ∙ along-past n c (tracked_on c cue (along n c 0 below)) above around.high
      ∙ ap (tracked_on c cue) (along-same n k c 0 below (up_to n (omega arith)) (up_to k (omega arith)))

  tracked_before : 1 ≤ n → n ≤ k → tracked show (n - 1) c ≡ into
  tracked_before least le =
      tracked_low show n (n - 1) c _ (cue ∷ []) _ around (omega arith)
      ∙ along-same (n - 1) k c 0 _ (up_to (n - 1) (omega arith)) (up_to k (omega arith))

  -- a cue that becomes a block cue takes over what tracks into it
  with_block : tracked (with_cue show (blocked show cue)) k c ≡ tracked show k c
  with_block = decided (λ x. tracked (with_cue show x) k c ≡ tracked show k c) cue.block cue _
      (λ blocks. same_there cue refl (λ le. refl)) (λ free. same_there _ refl (λ le.
      let here : tracked show cue.number c ≡ tracked_on c cue into = rw at_number (tracked_here le) in
      let open_step : tracked_on c cue into ≡ cond (is_some (move_in cue c)) (level_in cue c) into = rw free refl in
      on_moves show (record cue { block = true }) _ (tracked show cue.number) c into range
      ∙ block_level (move_in cue c) into (tracked show cue.number c) (here ∙ open_step) ∙ here))

  -- a block cue that becomes none brings to 0 what would track into it
  without_block : 1 ≤ n → tracked (with_cue show (unblocked show cue)) k c ≡ tracked show k c
  without_block least = decided (λ x. tracked (with_cue show x) k c ≡ tracked show k c) cue.block _ cue
      (λ blocks. same_there _ refl (λ le.
      let under : tracked show (cue.number - 1) c ≡ into = rw at_number (tracked_before least le) in
      let closed_step : tracked_on c cue into ≡ level_in cue c = rw blocks refl in
      on_moves show (record cue { block = false }) _ (λ d. 0) c into range
      ∙ rw under (unblock_level (move_in cue c) into) ∙ sym closed_step)) (λ free. same_there cue refl (λ le. refl))

-- the law of block
pub same_everywhere : (show after : Show) (edit : Edit) (k c : ℕ) → Valid show → IsTrue (is_block_edit edit) → edited show edit ≡ Ok after
    → InRange show.channels c → tracked after k c ≡ tracked show k c
same_everywhere show after (Block m) k c valid blocks is range =
    let a = bind_ok (the_cue show m) _ after is in
    ap (λ (s : Show). tracked s k c) (sym (ok_is _ after a.2))
    ∙ with_block show k c valid range m a.0 (there_is (cue_of show m) _ a.0 a.1)
same_everywhere show after (Unblock m) k c valid blocks is range =
    let a = bind_ok (the_cue show m) _ after is in
    let found = there_is (cue_of show m) _ a.0 a.1 in
    let there : ValidCue show.channels a.0 = found_valid (ValidCue show.channels) (λ (x : Cue). x.number) m show.cues a.0 valid.cues found in
    ap (λ (s : Show). tracked s k c) (sym (ok_is _ after a.2)) ∙ without_block show k c valid range m a.0 found
    (omega (arith, there.number.least, entry_number (λ (x : Cue). x.number) m show.cues a.0 found))
same_everywhere show after other k c valid blocks is range = absurd (false≢true blocks)
