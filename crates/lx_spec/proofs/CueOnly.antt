-- Law of cue only, on one channel: the cues below the edited one are as they were, and the first above it comes to the level that
-- it had there.
use Rattle.lx_spec.proofs.Imports.{◌≡◌, ◌≢◌, ℕ, ◌<◌, ◌≤◌, Bool, true, false, cond, not, List, [], ◌∷◌, ◌++◌, Some, refl}
use Rattle.lx_spec.proofs.Imports.{◌∙◌, sym, ap, inl, inr, arith, append_assoc, Option, IsTrue, find, is_some, nat_lt, ◌==◌, AllByRecursion}
use Rattle.lx_spec.proofs.Imports.{option_map_or, cases_lt, false≢true, nat_tests}
use Rattle.lx_spec.proofs.Imports.{IsStrictlySorted, entry_at, placed, Cue, Show, InRange, tracked, cue_of, cue_above, cue_only}
use Rattle.lx_spec.proofs.Imports.{kept_above, with_cue, with_moves, moves_for}
use Rattle.lx_spec.proofs.Along.{tracked_on, along, tracked-along, along-append, along-past, along-same, step_in}
use Rattle.lx_spec.proofs.MovesFor.{on_moves}
use Rattle.lx_spec.proofs.Comparisons.{above_or_equal, eq_below, lt_false, lt_true}
use Rattle.lx_spec.proofs.Lists.{all_append, each, find_after}
use Rattle.lx_spec.proofs.SortedLists.{none_there, stands_between}

-- The cues of a show around a number: those below it, those of it, and those above it.
pub record IsAround (n : ℕ) (cues below here above : List Cue) : Type 0 where
  pub is : cues ≡ below ++ (here ++ above)
  pub low : AllByRecursion (λ cue. cue.number < n) below
  pub at : AllByRecursion (λ cue. cue.number ≡ n) here
  pub high : AllByRecursion (λ cue. n < cue.number) above
  pub sorted : IsStrictlySorted (λ cue. cue.number) above

-- Up to the number stand those before and at it.
in_front : (n : ℕ) (cues below here above : List Cue) → IsAround n cues below here above
    → AllByRecursion (λ cue. cue.number ≤ n) (below ++ here)
in_front n cues below here above around = all_append (λ (cue : Cue). cue.number ≤ n) below here
    (each _ _ below (λ y h. omega (arith, h)) around.low) (each _ _ here (λ y h. omega (arith, h)) around.at)

-- what is not found up to the number is found above it, or not at all
found_above : (n : ℕ) (cues below here above : List Cue) → IsAround n cues below here above → (p : Cue → Bool)
    → ((y : Cue) → y.number ≤ n → p y ≡ false) → find p cues ≡ find p above
found_above n cues below here above around p other = ap (find p) (around.is ∙ sym (append_assoc below here above))
    ∙ find_after p (below ++ here) above (each _ _ _ other (in_front n cues below here above around))

-- below the number nothing above counts
pub tracked_low : (show : Show) (n k c : ℕ) (below here above : List Cue) → IsAround n show.cues below here above → k < n
    → tracked show k c ≡ along k c 0 below
tracked_low show n k c below here above around less =
    let rest : AllByRecursion (λ cue. k < cue.number) (here ++ above) =
    all_append (λ (cue : Cue). k < cue.number) here above (each _ _ here (λ x h. omega (arith, h)) around.at)
    (each _ _ above (λ x h. omega (arith, h)) around.high) in
    tracked-along show k c ∙ ap (along k c 0) around.is ∙ along-append k c 0 below (here ++ above)
    ∙ along-past k c (along k c 0 below) (here ++ above) rest

-- from the first cue above the number on, all that stands up to the number counts
tracked_high : (show : Show) (n k c : ℕ) (below here above : List Cue) (x : Cue) → IsAround n show.cues below here (x ∷ above)
    → x.number ≤ k → tracked show k c ≡ along k c (tracked_on c x (along k c 0 (below ++ here))) above
tracked_high show n k c below here above x around le =
    tracked-along show k c
    ∙ ap (along k c 0) (around.is ∙ sym (append_assoc below here (x ∷ above)))
    ∙ along-append k c 0 (below ++ here) (x ∷ above)
    ∙ ap (λ l. along k c l above) (step_in k c (along k c 0 (below ++ here)) x le)

-- at that cue itself
pub tracked_first : (show : Show) (n k c : ℕ) (below here above : List Cue) (x : Cue) → IsAround n show.cues below here (x ∷ above)
    → x.number ≤ k → tracked show x.number c ≡ tracked_on c x (along k c 0 (below ++ here))
tracked_first show n k c below here above x around le =
    let up_to : (m : ℕ) → n < m → AllByRecursion (λ cue. cue.number ≤ m) (below ++ here) =
    λ m less. each _ _ _ (λ y h. omega (arith, h)) (in_front n show.cues below here (x ∷ above) around) in
    let first : n < x.number = around.high.0 in
    tracked_high show n x.number c below here above x around (omega arith)
    ∙ along-past x.number c (tracked_on c x (along x.number c 0 (below ++ here))) above around.sorted.0
    ∙ ap (tracked_on c x) (along-same x.number k c 0 (below ++ here) (up_to x.number first) (up_to k (omega arith)))

unless_equal : (a b : ℕ) → cond (not (a == b)) a b ≡ a
unless_equal a b = grind (arith, nat_tests)

-- the cue above the number is the first of those above it
pub above_is : (show : Show) (n : ℕ) (below here above : List Cue) → IsAround n show.cues below here above
    → cue_above show n ≡ find (λ cue. nat_lt n cue.number) above
above_is show n below here above around =
    found_above n show.cues below here above around (λ cue. nat_lt n cue.number) (λ y h. lt_false n y.number h)

-- the first cue above, with the levels that it had
abbrev pub kept : Show → Show → Cue → Cue
kept before after x = with_moves x (moves_for before (λ c. not (tracked before x.number c == tracked after x.number c))
    (λ c. tracked before x.number c))

-- the cue above keeps its level, over whatever stands before it now
keeps_level : (before after : Show) (n k c : ℕ) (below here other above : List Cue) (x : Cue) → InRange before.channels c
    → IsAround n before.cues below here (x ∷ above) → IsAround n after.cues below other (x ∷ above) → x.number ≤ k
    → tracked_on c (kept before after x) (along k c 0 (below ++ other)) ≡ tracked_on c x (along k c 0 (below ++ here))
keeps_level before after n k c below here other above x range around now le =
    let was = tracked before x.number c in
    on_moves before x (λ d. not (tracked before x.number d == tracked after x.number d)) (tracked before x.number) c
    (along k c 0 (below ++ other)) range
    ∙ ap (cond (not (was == tracked after x.number c)) was) (sym (tracked_first after n k c below other above x now le))
    ∙ unless_equal was (tracked after x.number c)
    ∙ tracked_first before n k c below here above x around le

-- the show after the edit alone, and the show in which the cue above keeps its levels
pub kept_around : (before after : Show) (n : ℕ) (below other above : List Cue) (x : Cue) → IsAround n after.cues below other (x ∷ above)
    → IsAround n (with_cue after (kept before after x)).cues below other (kept before after x ∷ above)
kept_around before after n below other above x now =
    let own = kept before after x in
    let front = each _ (λ (y : Cue). y.number < x.number) _ (λ y h. omega (arith, h, now.high.0)) (in_front n after.cues below other _ now) in
    let all = stands_between (λ (cue : Cue). cue.number) x.number (below ++ other) above x front refl now.sorted.0 in
    let there : placed (λ cue. cue.number) own ((below ++ other) ++ (x ∷ above)) ≡ (below ++ other) ++ (own ∷ above) =
    rw (all.0, all.2) refl in
    record {
      is = ap (placed (λ (cue : Cue). cue.number) own) (now.is ∙ sym (append_assoc below other (x ∷ above))) ∙ there
          ∙ append_assoc below other (own ∷ above);
      low = now.low;
      at = now.at;
      high = now.high;
      sorted = now.sorted;
    }

-- a cue above the number is one of those above
is_above : (show : Show) (n k : ℕ) (below here above : List Cue) → IsAround n show.cues below here above → n < k
    → cue_of show k ≡ entry_at (λ cue. cue.number) k above
is_above show n k below here above around less =
    found_above n show.cues below here above around (λ cue. cue.number == k) (λ y h. eq_below y.number k (omega (arith, h, less)))

-- a cue of a sorted list is no lower than its first
not_lower : (x : Cue) (above : List Cue) (k : ℕ) → IsStrictlySorted (λ cue. cue.number) (x ∷ above)
    → IsTrue (is_some (entry_at (λ cue. cue.number) k (x ∷ above))) → x.number ≤ k
not_lower x above k sorted there = elim (cases_lt k x.number) [
  | inl lower ↦
      let none = none_there (λ (cue : Cue). cue.number) k (x ∷ above) (lower, each _ _ above (λ y h. omega (arith, h)) sorted.0) in
      absurd (false≢true (sym (ap is_some none) ∙ there))
  | inr le ↦ le
]

-- an edit of one cue alone, by what stands around it
pub kept_alone : (before after : Show) (n k c : ℕ) (below here other above : List Cue) → IsAround n before.cues below here above
    → IsAround n after.cues below other above → InRange before.channels c → k ≢ n → IsTrue (is_some (cue_of before k))
    → tracked (cue_only true before n after) k c ≡ tracked before k c
kept_alone before after n k c below here other [] around now range apart there =
    let to : cue_only true before n after ≡ after =
    ap (λ (o : Option Cue). option_map_or (kept_above before after) o after) (above_is after n below other [] now) in
    elim (cases_lt k n) [
      | inl less ↦ ap (λ (s : Show). tracked s k c) to ∙ tracked_low after n k c below other [] now less
          ∙ sym (tracked_low before n k c below here [] around less)
      | inr le ↦ absurd (false≢true (sym (ap is_some (is_above before n k below here [] around (above_or_equal n k le apart))) ∙ there))
    ]
kept_alone before after n k c below here other (x ∷ above) around now range apart there =
    let found : cue_above after n ≡ Some x = above_is after n below other (x ∷ above) now
    ∙ ap (λ b. cond b (Some x) (find (λ cue. nat_lt n cue.number) above)) (lt_true n x.number now.high.0) in
    let to : tracked (cue_only true before n after) k c ≡ tracked (with_cue after (kept before after x)) k c =
    ap (λ (o : Option Cue). tracked (option_map_or (kept_above before after) o after) k c) found in
    let then = kept_around before after n below other above x now in
    elim (cases_lt k n) [
      | inl less ↦ to ∙ tracked_low (with_cue after (kept before after x)) n k c below other (kept before after x ∷ above) then less
          ∙ sym (tracked_low before n k c below here (x ∷ above) around less)
      | inr le ↦
          let high = is_above before n k below here (x ∷ above) around (above_or_equal n k le apart) in
          let up : x.number ≤ k = not_lower x above k around.sorted (sym (ap is_some high) ∙ there) in
          to ∙ tracked_high (with_cue after (kept before after x)) n k c below other above (kept before after x) then up
          ∙ ap (λ l. along k c l above) (keeps_level before after n k c below here other above x range around now up)
          ∙ sym (tracked_high before n k c below here above x around up)
    ]
