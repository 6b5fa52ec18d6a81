-- Edited channels at which the playback doesn't look.
use Rattle.lx_console.proofs.Imports.{◌≡◌, ℕ, ◌+◌, ◌<◌, ◌≤◌, inl, inr, Bool, true, false, cond, List, [], ◌∷◌, refl, ◌∙◌, sym}
use Rattle.lx_console.proofs.Imports.{ap, subst, arith, Option, Some, None, IfSome, option_map, option_and_then, is_some, unwrap_or, find, take, slice_index_or}
use Rattle.lx_console.proofs.Imports.{zero, suc, nat_lt, not, ◌||◌, ◌==◌, if◌then◌else◌, option_map_or, IsSomeAnd, All, Move, entry_at}
use Rattle.lx_console.proofs.Imports.{entries_above, Cue, Show, Valid, tracked, cue_of, move_in, decides, with_cue, Run, first_entry, level, last_cue, Playback}
use Rattle.lx_console.proofs.Imports.{entry_at-placed_other, Plan, IsPast, IsReady, planned, KeptLevels as Levels, LevelsStandFor, StackStandsAt, PlacesCue}
use Rattle.lx_console.proofs.Imports.{IsApart, IsUnseen, IsFrom, decided_at}
use Rattle.lx_spec.proofs.Comparisons.{lt_from}
use Rattle.lx_spec.proofs.Lists.{found_has, passes}
use Rattle.lx_edit.proofs.ChangedColumns.{alike_past}
use Rattle.lx_edit.proofs.Walks.{tracked_below}
use Rattle.lx_levels.specs.Acts.{act_over}

-- a run of no use
abbrev pub no_run : Run
no_run = record { start = 0; cue = 0; parts = []; whole = false }

-- a number other than the placed cue's has the same cue
same_cue : (show : Show) (cue : Cue) (n c m : ℕ) → cue.number ≡ n → IsApart (with_cue show cue) n c m
    → cue_of show m ≡ cue_of (with_cue show cue) m
same_cue show cue n c m number apart =
    sym (entry_at-placed_other (λ (x : Cue). x.number) m cue show.cues (λ same. differs apart (sym number ∙ same))) where
      differs : IsApart (with_cue show cue) n c m → n ≡ m → ⊥
      differs (inl less) same = omega (arith, less, same)
      differs (inr past) same = omega (arith, past.0, same)

-- and its channel the same level
same_level : (show : Show) (cue : Cue) (n c m : ℕ) → Valid show → cue.number ≡ n → IsApart (with_cue show cue) n c m
    → tracked show m c ≡ tracked (with_cue show cue) m c
same_level show cue n c m valid number (inl less) = sym (tracked_below show n m c (Some cue) number less)
same_level show cue n c m valid number (inr past) = alike_past show cue n m c valid number past.1

-- the level over one more run, by what it takes from the show: whether its cue is asserted, the move and the tracked levels
abbrev over_one : Run → ℕ → ℕ → (ℕ → ℕ) → Bool → Option Move → ℕ → ℕ → ℕ
over_one run m c before asserted move at target =
    if run.whole || asserted || is_some move || not (at == target)
    then act_over (record {
      start = run.start;
      target = target;
      entry = unwrap_or (option_and_then (λ (v : Move). entry_at (λ e. e.part) v.part run.parts) move) (first_entry run.parts);
    }) before m
    else before m

-- so the levels over runs that go to such numbers are the same
module _ (show : Show) (cue : Cue) (n c base : ℕ) (valid : Valid show) (number : cue.number ≡ n) (apart : IsApart (with_cue show cue) n c base) where
  level_apart : (runs : List Run) (m : ℕ) → All (λ run. IsApart (with_cue show cue) n c run.cue) runs
      → (level show base runs c m ≡ level (with_cue show cue) base runs c m) × IsApart (with_cue show cue) n c (last_cue base runs)
  level_apart [] m all = (same_level show cue n c base valid number apart, apart)
  level_apart (run ∷ older) m all =
      let here : IsApart (with_cue show cue) n c run.cue = all 0 no_run (omega arith) in
      let rest : All (λ (r : Run). IsApart (with_cue show cue) n c r.cue) older = λ k d within. all (suc k) d (omega (arith, within)) in
      let there = same_cue show cue n c run.cue number here in (
        λ i. over_one run m c (λ z. (level_apart older z rest).0 i) (option_map_or (λ x. x.asserted) (there i) false)
            (option_and_then (λ x. move_in x c) (there i))
            (same_level show cue n c (last_cue base older) valid number (level_apart older m rest).1 i)
            (same_level show cue n c run.cue valid number here i),
        here,
      )

-- what is found among the first is found among all
found_step : {A : Type 0} (b : Bool) (y x : A) (first rest : Option A) → (first ≡ Some x → rest ≡ Some x)
    → cond b (Some y) first ≡ Some x → cond b (Some y) rest ≡ Some x
found_step true y x first rest later is = is
found_step false y x first rest later is = later is

find_taken : {A : Type 0} (p : A → Bool) (k : ℕ) (xs : List A) (x : A) → find p (take k xs) ≡ Some x → find p xs ≡ Some x
find_taken p zero xs x is = cc
find_taken p (suc k) [] x is = is
find_taken p (suc k) (y ∷ ys) x is = found_step (p y) y x _ _ (find_taken p k ys x) is

-- a cue among the next ones that decides the channel up to a number hides the edit from there on
apart_step : (show : Show) (n f c m k : ℕ) (o : Option Cue)
    → find (λ cue. decides cue c) (take k (entries_above (λ cue. cue.number) n show.cues)) ≡ o
    → IsSomeAnd (option_map (λ (cue : Cue). cue.number) o) (λ end. end ≤ f) → f ≤ m → (n < m) × IsPast None show n c m
apart_step show n f c m k None is by le = absurd by
apart_step show n f c m k (Some d) is by le =
    let later : List Cue = entries_above (λ (cue : Cue). cue.number) n show.cues in
    let found : find (λ cue. decides cue c) later ≡ Some d = find_taken (λ (cue : Cue). decides cue c) k later d is in
    let above : n < d.number =
    lt_from n d.number (subst (λ o. IfSome o (λ (cue : Cue). nat_lt n cue.number ≡ true)) found
    (found_has (λ (cue : Cue). nat_lt n cue.number ≡ true) (λ (cue : Cue). decides cue c) later _ refl
    (passes (λ (cue : Cue). nat_lt n cue.number) show.cues))) in (
      omega (arith, above, by, le),
      subst (λ (o : Option Cue). IsSomeAnd (option_map (λ (cue : Cue). cue.number) o) (λ end. end ≤ m)) (sym found) (omega (arith, by, le)),
    )

apart_from : (show : Show) (n f c m k : ℕ) → IsFrom (Some f) n m
    → decided_at (take k (entries_above (λ cue. cue.number) n show.cues)) f c → IsApart show n c m
apart_from show n f c m k (inl less) by = inl less
apart_from show n f c m k (inr le) by = inr (apart_step show n f c m k _ refl by le)

pub unseen_by : (show : Show) (p : Playback) (n f c k : ℕ) → IsFrom (Some f) n p.base → All (λ run. IsFrom (Some f) n run.cue) p.live
    → decided_at (take k (entries_above (λ cue. cue.number) n show.cues)) f c → IsUnseen show p n c
unseen_by show p n f c k base runs by = record {
  base = apart_from show n f c p.base k base by;
  runs = λ i d within. apart_from show n f c (slice_index_or p.live i d).cue k (runs i d within) by;
}

-- an unseen channel keeps what its levels stand for, where a plan placed one cue
pub placed_stands : (show after : Show) (p : Playback) (plan : Plan) (placed : Option ℕ) (k : ℕ) (levels : Levels) → Valid show
    → LevelsStandFor show p levels → k < show.channels → IsReady show plan → after ≡ planned show plan
    → IfSome placed (λ n. (s : Show) → Valid s → IsReady s plan → PlacesCue s (planned s plan) n)
    → IsSomeAnd placed (λ n. IsUnseen after p n (k + 1)) → StackStandsAt after p levels k
placed_stands show after p plan None k levels valid stands within ready is places unseen = absurd unseen
placed_stands show after p plan (Some n) k levels valid stands within ready is places unseen =
    let old = stands.each k within in
    let placed = places show valid ready in
    let after_is = is ∙ placed.after_is in
    let seen = subst (λ (s : Show). IsUnseen s p n (k + 1)) after_is unseen in
    record {
      later = λ x from. old.later x from
          ∙ (level_apart show placed.cue n (k + 1) p.base valid placed.number seen.base p.live x seen.runs).0
          ∙ sym (ap (λ (s : Show). level s p.base p.live (k + 1) x) after_is);
      few = old.few;
    }
