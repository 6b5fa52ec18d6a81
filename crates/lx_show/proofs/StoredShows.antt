-- Shows that stay stored where an entry is exchanged or changed in its place.
use Rattle.lx_show.proofs.Imports.{◌≡◌, ℕ, ◌≤◌, Bool, find, inl, inr, List, length, set, get_or, arith, ap, sym, subst, ◌∙◌, IsTrue, IfSome, Option, Some, None, not}
use Rattle.lx_show.proofs.Imports.{nat_lt, ◌||◌, ◌==◌, Bor, AllByRecursion, length-set, CUES, IsStrictlySorted, entry_at, has_entry, placed, StandsAt, Cue, Show}
use Rattle.lx_show.proofs.Imports.{Valid, ValidCue, IsStored, exchanged_at, option_copied, cue_of, InRange, lt_from, each, kept_by, lent_has, shorter}
use Rattle.lx_show.proofs.Imports.{All-placed, IsStrictlySorted-placed, few_in_range, found_number, found_valid, length-placed, length-placed_there, cases_Bool}
use Rattle.lx_show.proofs.Indexes.{replaced, stands_entry}

-- there are no more entries than numbers
pub few_kept : {A : Type 0} {P : A → Type 0} {key : A → ℕ} {limit : ℕ} (xs : List A) → ((x : A) → P x → InRange limit (key x)) → AllByRecursion P xs
    → IsStrictlySorted key xs → length xs ≤ limit
few_kept {key} {limit} xs range all sorted = few_in_range key limit xs sorted (each _ _ xs range all)

-- The show as it is kept is the one that callers see.
module _ {A : Type 0} (P : ℕ → A → Type 0) (xs : List A) {show seen : Show} where
  -- what is lent of a list is as all its entries are
  pub lent_valid : (test : A → Bool) {shown : List A} (found : Option (Bor A)) → show ≡ seen → shown ≡ xs → option_copied found ≡ find test shown
      → AllByRecursion (P show.channels) xs → IfSome found (λ x. P seen.channels x.now)
  lent_valid test found view same is all = subst (λ (s : Show). IfSome found (λ x. P s.channels x.now)) view
      (lent_has (P show.channels) test _ found is (subst (AllByRecursion (P show.channels)) (sym same) all))

  -- what holds of each entry holds of each where one is exchanged
  pub All-exchanged : (key : A → ℕ) (n : ℕ) (to : Option A) {new : List A} → show ≡ seen → IfSome to (P seen.channels) → new ≡ exchanged_at key n to xs
      → AllByRecursion (P show.channels) xs → AllByRecursion (P show.channels) new
  All-exchanged key n None view here is all = rw is (kept_by _ _ xs all)
  All-exchanged key n (Some x) view here is all = rw is (All-placed _ key x xs (subst (λ (s : Show). P s.channels x) (sym view) here) all)

  -- there is room for each number
  pub room_for : {limit room : ℕ} (key : A → ℕ) (to : Option A) → ((x : A) → P show.channels x → InRange limit (key x)) → show ≡ seen → IfSome to (P seen.channels)
      → AllByRecursion (P show.channels) xs → IsStrictlySorted key xs → limit ≤ room → IfSome to (λ x. length (placed key x xs) ≤ room)
  room_for key None range view here all sorted wide = tt
  room_for key (Some x) range view here all sorted wide = omega (
    arith,
    few_kept (placed key x xs) range
        (All-placed _ key x xs (subst (λ (s : Show). P s.channels x) (sym view) here) all) (IsStrictlySorted-placed key x xs sorted),
  )

-- a cue that is there, or for which there is room, can be placed
module _ {show seen : Show} (n : ℕ) where
  pub few_exchanged : (m : ℕ) (to : Option Cue) → Valid show → show ≡ seen → IfSome to (λ cue. cue.number ≡ n)
      → IfSome to (λ _. IsTrue (has_entry (λ x. x.number) n seen.cues || nat_lt (length seen.cues) CUES))
      → length (exchanged_at (λ x. x.number) m to show.cues) ≤ CUES
  few_exchanged m None valid view number room = omega (arith, shorter (λ (x : Cue). not (x.number == m)) show.cues, valid.few_cues)
  few_exchanged m (Some cue) valid view number room =
      let here : IsTrue (has_entry (λ x. x.number) cue.number show.cues || nat_lt (length show.cues) CUES) =
      rw number (subst (λ (s : Show). IsTrue (has_entry (λ x. x.number) n s.cues || nat_lt (length s.cues) CUES)) (sym view) room) in
      elim (cases_Bool (has_entry (λ x. x.number) cue.number show.cues)) [
        | inl there ↦ omega (arith, length-placed_there (λ x. x.number) cue show.cues there, valid.few_cues)
        | inr new ↦ omega (arith, length-placed (λ x. x.number) cue show.cues, lt_from (length show.cues) CUES (rw new at here))
      ]

  pub room_for_cue : {a : ℕ} (to : Option Cue) → Valid show → CUES ≤ a → show ≡ seen → IfSome to (λ cue. cue.number ≡ n)
      → IfSome to (λ _. IsTrue (has_entry (λ x. x.number) n seen.cues || nat_lt (length seen.cues) CUES))
      → IfSome to (λ cue. length (placed (λ x. x.number) cue show.cues) ≤ a)
  room_for_cue None valid wide view number room = tt
  room_for_cue (Some cue) valid wide view number room = omega (arith, few_exchanged n (Some cue) valid view number room)

-- A cue where it stands in a show: it is the one that callers see, and another one of its number can be put there.
pub record CueAt (show seen : Show) (n at : ℕ) (cue : Cue) (a b c d : ℕ) : Type 0 where
  pub before : Valid seen
  pub found : cue_of seen n ≡ Some cue
  pub valid : ValidCue seen.channels cue
  pub stored : (new : Cue) → new.number ≡ cue.number → ValidCue seen.channels new → IsStored (record show { cues = set show.cues at new }) a b c d
  pub shown : (new : Cue) → new.number ≡ cue.number
      → record show { cues = set show.cues at new } ≡ record seen { cues = placed (λ x. x.number) new seen.cues }

pub cue_at : {show seen : Show} {n m at : ℕ} {ys : List Cue} {x cue : Cue} {a b c d : ℕ} → IsStored show a b c d → show ≡ seen → n ≡ m
    → ys ≡ show.cues → StandsAt (λ y. y.number) n ys at → cue ≡ x → x ≡ get_or show.cues at x → CueAt show seen m at cue a b c d
cue_at {show} {seen} {n} {m} {at} {ys} {x} {cue} stored view number same place shows is =
    let here : cue ≡ get_or show.cues at cue = subst (λ (y : Cue). y ≡ get_or show.cues at y) (sym shows) is in
    let entry : entry_at (λ y. y.number) n show.cues ≡ Some cue = stands_entry (λ y. y.number) n at ys show.cues cue same place here in
    let there : (new : Cue) → new.number ≡ cue.number → set show.cues at new ≡ placed (λ y. y.number) new show.cues =
    λ new kept. replaced new (found_number (λ y. y.number) n show.cues cue entry ∙ sym kept) same place in record {
      before = subst Valid view stored.valid;
      found = sym (ap (λ (s : Show). cue_of s n) view ∙ ap (λ (k : ℕ). cue_of seen k) number) ∙ entry;
      valid = subst (λ (s : Show). ValidCue s.channels cue) view (found_valid _ (λ y. y.number) n show.cues cue stored.valid.cues entry);
      stored = λ new kept valid.
          let all : AllByRecursion (ValidCue show.channels) (set show.cues at new) = rw (there new kept)
          (All-placed _ _ new show.cues (subst (λ (s : Show). ValidCue s.channels new) (sym view) valid) stored.valid.cues) in
          let sorted : IsStrictlySorted (λ y. y.number) (set show.cues at new) = rw (there new kept)
          (IsStrictlySorted-placed _ new show.cues stored.valid.cues_sorted) in
          let few : length (set show.cues at new) ≤ CUES = omega (arith, length-set show.cues at new, stored.valid.few_cues) in search;
      shown = λ new kept. ap (λ (xs : List Cue). record show { cues = xs }) (there new kept)
          ∙ ap (λ (s : Show). record s { cues = placed (λ y. y.number) new s.cues }) view;
    }
