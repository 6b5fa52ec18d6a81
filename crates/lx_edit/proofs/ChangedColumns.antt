-- Channels that see no difference where a cue is changed, added or taken out.
use Rattle.lx_edit.proofs.Imports.{◌≡◌, ℕ, ◌-◌, ◌<◌, ◌≤◌, Bool, true, false, cond, List, [], ◌∷◌, ◌⊎◌, ◌++◌, ◌==◌, map, Some, None, refl}
use Rattle.lx_edit.proofs.Imports.{◌∙◌, sym, ap, subst, inl, inr, arith, Option, option_map, find, IfSome, IsTrue, is_some, ◌||◌, nat_le, reverse}
use Rattle.lx_edit.proofs.Imports.{map-append, cases_Bool, option_map_or, IsSomeAnd, cases_eq, cases_lt, CHANNELS, Move}
use Rattle.lx_edit.proofs.Imports.{entries_above, entries_below, Cue, Show, Valid, ValidCue, InRange, tracked, cue_of, move_of, level_in, decides}
use Rattle.lx_edit.proofs.Imports.{with_cue, changed_show, entries_up_to, ChanSet, has_chan, move_by, is_block, SameEntry, SameLevels, Grows, KeepsLevels}
use Rattle.lx_edit.proofs.Imports.{IsPast, KeepsAbove, le_true, all_reverse, each, eq_other, find_has, find_none, found_number, has_placed, split_there}
use Rattle.lx_edit.proofs.Lists.{with_some}
use Rattle.lx_edit.proofs.SameLists.{exchanged_here, exchanged_other}
use Rattle.lx_edit.proofs.Walks.{walked, later, above_exchanged, tracked_below, tracked_changed, tracked_into, tracked_split}

level_step : (block : Bool) (m : Option Move) (base : ℕ) → (m ≡ None → base ≡ 0)
    → cond (block || is_some m) (option_map_or (λ x. x.level) m 0) base ≡ option_map_or (λ x. x.level) m 0
level_step true m base none = refl
level_step false None base none = none refl
level_step false (Some m) base none = refl

-- the same moves, and nothing tracks in where there are none
pub same_entry : (old new : Option Cue) (c base : ℕ) → move_by old c ≡ move_by new c → (move_by new c ≡ None → base ≡ 0)
    → SameEntry old new c base
same_entry old new c base moves none = record {
  moves = moves;
  level = level_step (is_block old) (move_by old c) base (λ absent. none (sym moves ∙ absent))
      ∙ ap (λ (m : Option Move). option_map_or (λ x. x.level) m 0) moves ∙ sym (level_step (is_block new) (move_by new c) base none);
}

-- What is no channel of the show is at 0.
in_range : (top c : ℕ) → InRange top c ⊎ (InRange top c → ⊥)
in_range top c = elim (cases_lt c 1) [
  | inl none ↦ inr (λ r. let least : 1 ≤ c = r.least in omega (arith, none, least))
  | inr some ↦ elim (cases_lt top c) [
    | inl past ↦ inr (λ r. let most : c ≤ top = r.most in omega (arith, past, most))
    | inr most ↦ inl (record { least = some; most = most })
  ]
]

no_level : (channels c : ℕ) (o : Option Cue) → (InRange channels c → ⊥) → IfSome o (ValidCue channels)
    → option_map_or (λ cue. level_in cue c) o 0 ≡ 0
no_level channels c None out valid = refl
no_level channels c (Some cue) out valid =
    ap (λ (o : Option Move). option_map_or (λ m. m.level) o 0) (find_none (λ m. m.chan == c) cue.moves
    (each _ _ cue.moves (λ m h. eq_other m.chan c (λ is. out (subst (InRange channels) is h.chan))) valid.moves))

tracked_out : (show : Show) (n c : ℕ) → Valid show → (InRange show.channels c → ⊥) → tracked show n c ≡ 0
tracked_out show n c valid out = no_level show.channels c _ out
    (find_has (ValidCue show.channels) _ (reverse show.cues) (all_reverse (ValidCue show.channels) show.cues valid.cues))

-- a channel at which nothing tracks in, as far as channels go
pub nothing_tracks : (show : Show) (n c : ℕ) → Valid show → (1 ≤ c → c ≤ CHANNELS → tracked show n c ≡ 0) → tracked show n c ≡ 0
nothing_tracks show n c valid within = elim (in_range show.channels c) [
  | inl range ↦
      let most : c ≤ show.channels = range.most in
      let few : show.channels ≤ CHANNELS = valid.channels.most in
      within range.least (omega (arith, most, few))
  | inr out ↦ tracked_out show n c valid out
]

-- The columns of a show one of whose cues is changed, or goes.
pub move_changed : (show : Show) (n c k : ℕ) (new : Option Cue) → IfSome new (λ cue. cue.number ≡ n)
    → move_by (cue_of show n) c ≡ move_by new c → move_of show k c ≡ move_of (changed_show show n new) k c
move_changed show n c k new number moves = elim (cases_eq k n) [
  | inl here ↦ rw (here, exchanged_here (λ (x : Cue). x.number) n new show.cues number) moves
  | inr other ↦ sym (ap (λ (o : Option Cue). move_by o c) (exchanged_other (λ (x : Cue). x.number) n k new show.cues number other))
]

-- a channel that sees no difference at the cue sees none at all
column_changed : (show : Show) (n c : ℕ) (new : Option Cue) → Valid show → 1 ≤ n → IfSome new (λ cue. cue.number ≡ n)
    → SameEntry (cue_of show n) new c (tracked show (n - 1) c) → SameLevels show (changed_show show n new) c
column_changed show n c new valid least number entry = record {
  moves = λ k. move_changed show n c k new number entry.moves;
  levels = λ k. elim (cases_lt k n) [
    | inl low ↦ sym (tracked_below show n k c new number low)
    | inr high ↦ tracked_split show n c valid.cues_sorted k high
        ∙ ap (λ base. walked c base (later show n k)) (rw (← tracked_into show n c least) entry.level)
        ∙ sym (tracked_changed show n k c new number high valid.cues_sorted)
  ];
}

-- the channels that aren't marked see no difference
pub others_changed : (show after : Show) (n : ℕ) (new : Option Cue) (chans : ChanSet) → Valid show → after ≡ changed_show show n new → 1 ≤ n
    → IfSome new (λ cue. cue.number ≡ n)
    → ((x : ℕ) → has_chan chans x ≡ false → SameEntry (cue_of show n) new x (tracked show (n - 1) x)) → KeepsLevels show after chans
others_changed show after n new chans valid is least number entry = λ x out.
    subst (λ (s : Show). SameLevels show s x) (sym is) (column_changed show n x new valid least number (entry x out))

-- a cue in the place of one that is there leaves the numbers
pub numbers_with : (show : Show) (cue : Cue) → Valid show → IsTrue (is_some (cue_of show cue.number))
    → map (λ x. x.number) (with_cue show cue).cues ≡ map (λ x. x.number) show.cues
numbers_with show cue valid there = with_some (cue_of show cue.number) there (λ old found.
    let key : Cue → ℕ = λ x. x.number in
    let low = entries_below key cue.number show.cues in
    let high = entries_above key cue.number show.cues in
    map-append key low (cue ∷ high) ∙ ap (λ k. map key low ++ (k ∷ map key high)) (found_number key cue.number show.cues old found)
    ∙ sym (ap (map key) (split_there key cue.number old show.cues valid.cues_sorted found) ∙ map-append key low (old ∷ high)))

-- From the next decision on nothing is changed: whatever tracks into them, cues of which one decides give the same.
past_alike : (c a b m : ℕ) (cues : List Cue)
    → IsSomeAnd (option_map (λ cue. cue.number) (find (λ cue. decides cue c) cues)) (λ end. end ≤ m)
    → walked c a (entries_up_to (λ cue. cue.number) m cues) ≡ walked c b (entries_up_to (λ cue. cue.number) m cues)
past_alike c a b m [] past = absurd past
past_alike c a b m (y ∷ ys) past =
    let rest = entries_up_to (λ cue. cue.number) m ys in
    let on : (t : Bool) → decides y c ≡ t → (base : ℕ) → walked c base (y ∷ rest) ≡ walked c (cond t (level_in y c) base) rest =
    λ t is base. ap (λ e. walked c (cond e (level_in y c) base) rest) is in
    elim (cases_Bool (decides y c)) [
      | inl here ↦
          let low : y.number ≤ m = rw here at past in
          rw (le_true y.number m low) (on true here a ∙ sym (on true here b))
      | inr other ↦
          let same = past_alike c a b m ys (rw other at past) in
          elim (nat_le y.number m) as (λ t. walked c a (cond t (y ∷ rest) rest) ≡ walked c b (cond t (y ∷ rest) rest))
          [ true ↦ on false other a ∙ same ∙ sym (on false other b) | false ↦ same ]
    ]

pub alike_past : (show : Show) (cue : Cue) (n m c : ℕ) → Valid show → cue.number ≡ n → IsPast None (with_cue show cue) n c m
    → tracked show m c ≡ tracked (with_cue show cue) m c
alike_past show cue n m c valid number past = elim (cases_lt m n) [
  | inl less ↦ sym (tracked_below show n m c (Some cue) number less)
  | inr le ↦ tracked_split show n c valid.cues_sorted m le
      ∙ past_alike c _ _ m (entries_above (λ (x : Cue). x.number) n show.cues) (subst (λ (cues : List Cue).
      IsSomeAnd (option_map (λ x. x.number) (find (λ x. decides x c) cues)) (λ end. end ≤ m))
      (above_exchanged (λ (x : Cue). x.number) n n (Some cue) show.cues (omega arith) number) past)
      ∙ sym (tracked_changed show n m c (Some cue) number le valid.cues_sorted)
]

-- Cue only: a cue placed, and the one above it with it.
pub record IsAlone (show : Show) (cue kept : Cue) (n end : ℕ) : Type 0 where
  pub number : cue.number ≡ n
  pub end_is : kept.number ≡ end
  pub least : 1 ≤ n
  pub valid : Valid show
  pub keeps : KeepsAbove show (with_cue show cue) n kept

module _ {show : Show} {cue kept : Cue} {n end : ℕ} (a : IsAlone show cue kept n end) where
  pub alone_numbers : Valid (with_cue show cue)
      → map (λ x. x.number) (with_cue (with_cue show cue) kept).cues ≡ map (λ x. x.number) show.cues
  alone_numbers then =
      numbers_with (with_cue show cue) kept then (has_placed (λ (x : Cue). x.number) kept.number cue show.cues a.keeps.above)
      ∙ numbers_with show cue a.valid (rw a.number a.keeps.cue)

  pub alone_below : (m c : ℕ) → m < n → tracked (with_cue (with_cue show cue) kept) m c ≡ tracked show m c
  alone_below m c less =
      let higher : n < kept.number = a.keeps.higher in
      tracked_below (with_cue show cue) kept.number m c (Some kept) refl (omega (arith, less, higher))
      ∙ tracked_below show n m c (Some cue) a.number less

  -- from the cue above on nothing is changed
  pub alone_later : (m c : ℕ) → Valid (with_cue (with_cue show cue) kept) → end ≤ m
      → tracked (with_cue (with_cue show cue) kept) m c ≡ tracked show m c
  alone_later m c then le = elim (in_range show.channels c) [
    | inl range ↦ a.keeps.levels m c range (rw a.end_is le)
    | inr out ↦ tracked_out (with_cue (with_cue show cue) kept) m c then out ∙ sym (tracked_out show m c a.valid out)
  ]

  -- a channel that sees no difference at either cue sees none at all
  alone_columns : (c : ℕ) → Valid (with_cue (with_cue show cue) kept)
      → SameEntry (cue_of show n) (Some cue) c (tracked show (n - 1) c) → move_by (cue_of show end) c ≡ move_by (Some kept) c
      → SameLevels show (with_cue (with_cue show cue) kept) c
  alone_columns c then entry moves =
      let first : SameLevels show (with_cue show cue) c = column_changed show n c (Some cue) a.valid a.least a.number entry in
      record {
        moves = λ k. first.moves k ∙ move_changed (with_cue show cue) end c k (Some kept) a.end_is (sym (first.moves end) ∙ moves);
        levels = λ k. elim (cases_lt k end) [
          | inl less ↦ first.levels k ∙ sym (tracked_below (with_cue show cue) end k c (Some kept) a.end_is less)
          | inr le ↦ sym (alone_later k c then le)
        ];
      }

  -- the channels that aren't marked see no difference
  pub others_alone : {after : Show} (first chans : ChanSet) → Valid after → after ≡ with_cue (with_cue show cue) kept → Grows first chans
      → ((x : ℕ) → has_chan first x ≡ false → SameEntry (cue_of show n) (Some cue) x (tracked show (n - 1) x))
      → ((x : ℕ) → has_chan chans x ≡ false → SameEntry (cue_of show end) (Some kept) x (tracked show (end - 1) x))
      → KeepsLevels show after chans
  others_alone first chans then is grows here above = λ x out. subst (λ (s : Show). SameLevels show s x) (sym is)
      (alone_columns x (subst Valid is then) (here x (grows x out)) (above x out).moves)
