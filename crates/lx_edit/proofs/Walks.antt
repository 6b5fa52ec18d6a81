-- Tracking as a walk up the cues: what each makes of the level that tracks into it. A cue is changed, or goes: what is tracked then.
use Rattle.lx_edit.proofs.Imports.{◌≡◌, ℕ, ◌-◌, ◌<◌, ◌≤◌, Bool, true, false, cond, List, [], ◌∷◌, ◌++◌, Some, None, refl}
use Rattle.lx_edit.proofs.Imports.{◌∙◌, sym, ap, arith, Option, IfSome, find, fold, reverse, slice_get, nat_le, nat_lt, ◌==◌, not, if◌then◌else◌}
use Rattle.lx_edit.proofs.Imports.{option_map_or, option_or, option_to_list, nat_tests, append-nil, find-append, fold-append, filter-append, IsStrictlySorted}
use Rattle.lx_edit.proofs.Imports.{entries_below, entries_above, Cue, Show, tracked, cue_of, decides, level_in, cue_above, entries_up_to}
use Rattle.lx_edit.proofs.Imports.{exchanged_at, changed_show, level_from, le_false, le_true, lt_false, each, filter_none, find_both_last, find_first}
use Rattle.lx_edit.proofs.Imports.{none_differs, some_same, subst, IsStrictlySorted-filter, filter_agree}
use mathlib.Core.List.{reverse-cons}
use Rattle.lx_edit.proofs.Lists.{filter_again, filter_lost, filter_within}
use Rattle.lx_edit.proofs.SameLists.{exchanged_parts, exchanged_same, found_here}

-- what the cue makes of the level that tracks into it
abbrev pub through : ℕ → ℕ → Cue → ℕ
through c base cue = if decides cue c then level_in cue c else base

-- what the cues make of it, one after the other
abbrev pub walked : ℕ → ℕ → List Cue → ℕ
walked c base cues = fold (λ level cue. through c level cue) base cues

-- the cues above a number, up to another
abbrev pub later : Show → ℕ → ℕ → List Cue
later show n m = entries_up_to (λ cue. cue.number) m (entries_above (λ cue. cue.number) n show.cues)

or_step : (c base : ℕ) (x : Cue) (found : Option Cue) (b : Bool)
    → option_map_or (λ cue. level_in cue c) (option_or found (cond b (Some x) None)) base
    ≡ option_map_or (λ cue. level_in cue c) found (cond b (level_in x c) base)
or_step c base x None true = refl
or_step c base x None false = refl
or_step c base x (Some y) b = refl

-- the last cue that decides gives the level at the end of the walk
last_decides : (c base : ℕ) (cues : List Cue)
    → option_map_or (λ cue. level_in cue c) (find (λ cue. decides cue c) (reverse cues)) base ≡ walked c base cues
last_decides c base [] = refl
last_decides c base (x ∷ xs) =
    ap (λ (ys : List Cue). option_map_or (λ cue. level_in cue c) (find (λ cue. decides cue c) ys) base) (reverse-cons x xs)
    ∙ ap (λ (o : Option Cue). option_map_or (λ cue. level_in cue c) o base) (find-append (λ cue. decides cue c) (reverse xs) (x ∷ []))
    ∙ or_step c base x (find (λ cue. decides cue c) (reverse xs)) (decides x c)
    ∙ last_decides c (through c base x) xs

tracked-walked : (show : Show) (n c : ℕ) → tracked show n c ≡ walked c 0 (entries_up_to (λ cue. cue.number) n show.cues)
tracked-walked show n c = ap (λ (o : Option Cue). option_map_or (λ cue. level_in cue c) o 0)
    (sym (find_both_last (λ cue. nat_le cue.number n) (λ cue. decides cue c) show.cues))
    ∙ last_decides c 0 (entries_up_to (λ cue. cue.number) n show.cues)

-- An entry is exchanged. Up to a lower number the entries are the same.
up_to_below : {A : Type 0} (key : A → ℕ) (n m : ℕ) (new : Option A) (xs : List A) → m < n → IfSome new (λ x. key x ≡ n)
    → entries_up_to key m (exchanged_at key n new xs) ≡ entries_up_to key m xs
up_to_below key n m None xs less number = filter_within (λ y. nat_le (key y) m) (λ y. not (key y == n)) xs (λ y h. grind (arith, nat_tests))
up_to_below key n m (Some x) xs less number =
    let at : key x ≡ n = number in
    filter-append (λ y. nat_le (key y) m) (entries_below key (key x) xs) (x ∷ entries_above key (key x) xs)
    ∙ rw (
      le_false (key x) m (omega (arith, at, less)),
      filter_lost (λ y. nat_le (key y) m) (λ y. nat_lt (key x) (key y)) xs (λ y h. grind (arith, nat_tests)),
      filter_within (λ y. nat_le (key y) m) (λ y. nat_lt (key y) (key x)) xs (λ y h. grind (arith, nat_tests)),
    ) (append-nil _)

-- above a number that isn't lower too
pub above_exchanged : {A : Type 0} (key : A → ℕ) (n k : ℕ) (new : Option A) (xs : List A) → n ≤ k → IfSome new (λ x. key x ≡ n)
    → entries_above key k (exchanged_at key n new xs) ≡ entries_above key k xs
above_exchanged key n k None xs le number = filter_within (λ y. nat_lt k (key y)) (λ y. not (key y == n)) xs (λ y h. grind (arith, nat_tests))
above_exchanged key n k (Some x) xs le number =
    let at : key x ≡ n = number in
    filter-append (λ y. nat_lt k (key y)) (entries_below key (key x) xs) (x ∷ entries_above key (key x) xs)
    ∙ rw (
      lt_false k (key x) (omega (arith, at, le)),
      filter_lost (λ y. nat_lt k (key y)) (λ y. nat_lt (key y) (key x)) xs (λ y h. grind (arith, nat_tests)),
    )
    (filter_within (λ y. nat_lt k (key y)) (λ y. nat_lt (key x) (key y)) xs (λ y h. grind (arith, nat_tests)))

-- and up to one that isn't lower they are those below it, the new one, and those above it
up_to_option : {A : Type 0} (key : A → ℕ) (n m : ℕ) (new : Option A) (xs : List A) → n ≤ m → IfSome new (λ x. key x ≡ n)
    → entries_up_to key m (option_to_list new ++ xs) ≡ option_to_list new ++ entries_up_to key m xs
up_to_option key n m None xs le number = refl
up_to_option key n m (Some x) xs le number = let at : key x ≡ n = number in rw (le_true (key x) m (omega (arith, at, le))) refl

up_to_exchanged : {A : Type 0} (key : A → ℕ) (n m : ℕ) (new : Option A) (xs : List A) → n ≤ m → IfSome new (λ x. key x ≡ n)
    → IsStrictlySorted key xs → entries_up_to key m (exchanged_at key n new xs)
    ≡ entries_below key n xs ++ (option_to_list new ++ entries_up_to key m (entries_above key n xs))
up_to_exchanged key n m new xs le number sorted =
    ap (entries_up_to key m) (exchanged_parts key n new xs number sorted)
    ∙ filter-append (λ y. nat_le (key y) m) (entries_below key n xs) (option_to_list new ++ entries_above key n xs)
    ∙ rw (filter_again (λ y. nat_le (key y) m) (λ y. nat_lt (key y) n) xs (λ y h. grind (arith, nat_tests)))
    (ap (λ ys. entries_below key n xs ++ ys) (up_to_option key n m new (entries_above key n xs) le number))

-- the level that tracks into a number
abbrev pub into : Show → ℕ → ℕ → ℕ
into show n c = walked c 0 (entries_below (λ cue. cue.number) n show.cues)

pub tracked_into : (show : Show) (n c : ℕ) → 1 ≤ n → tracked show (n - 1) c ≡ into show n c
tracked_into show n c least = tracked-walked show (n - 1) c
    ∙ ap (walked c 0) (filter_agree (λ (cue : Cue). nat_le cue.number (n - 1)) (λ (cue : Cue). nat_lt cue.number n)
    (λ cue. grind (arith, nat_tests)) show.cues)

walked_option : (c base : ℕ) (new : Option Cue) (cues : List Cue)
    → walked c base (option_to_list new ++ cues) ≡ walked c (level_from new c base) cues
walked_option c base None cues = refl
walked_option c base (Some cue) cues = refl

none_later : (show : Show) (n : ℕ) → later show n n ≡ []
none_later show n = filter_lost (λ (x : Cue). nat_le x.number n) (λ (x : Cue). nat_lt n x.number) show.cues (λ x h. grind (arith, nat_tests))

-- the tracked level from a changed cue on: what it makes of what tracks into it, and what the cues above make of that
module _ (show : Show) (n m c : ℕ) (new : Option Cue) (number : IfSome new (λ cue. cue.number ≡ n)) where
  pub tracked_changed : n ≤ m → IsStrictlySorted (λ x. x.number) show.cues
      → tracked (changed_show show n new) m c ≡ walked c (level_from new c (into show n c)) (later show n m)
  tracked_changed le sorted =
      let key : Cue → ℕ = λ x. x.number in
      tracked-walked (changed_show show n new) m c
      ∙ ap (walked c 0) (up_to_exchanged key n m new show.cues le number sorted)
      ∙ fold-append (λ level x. through c level x) 0 (entries_below key n show.cues) (option_to_list new ++ later show n m)
      ∙ walked_option c (into show n c) new (later show n m)

  -- below it nothing is changed
  pub tracked_below : m < n → tracked (changed_show show n new) m c ≡ tracked show m c
  tracked_below less = tracked-walked (changed_show show n new) m c
      ∙ ap (walked c 0) (up_to_below (λ (x : Cue). x.number) n m new show.cues less number) ∙ sym (tracked-walked show m c)

-- and at its own number
pub tracked_here : (show : Show) (n c : ℕ) (new : Option Cue) → IfSome new (λ cue. cue.number ≡ n) → IsStrictlySorted (λ x. x.number) show.cues
    → tracked (changed_show show n new) n c ≡ level_from new c (into show n c)
tracked_here show n c new number sorted =
    tracked_changed show n n c new number (omega arith) sorted ∙ ap (walked c (level_from new c (into show n c))) (none_later show n)

-- a cue that is there, or isn't, changed to itself
pub same_show : (show : Show) (n : ℕ) → IsStrictlySorted (λ x. x.number) show.cues → changed_show show n (cue_of show n) ≡ show
same_show show n sorted = ap (λ (cues : List Cue). record show { cues = cues }) (exchanged_same (λ (x : Cue). x.number) n show.cues sorted)

-- the tracked level from a number on, by what comes at the number; at it; and by the level that is tracked at it
module _ (show : Show) (n c : ℕ) (sorted : IsStrictlySorted (λ x. x.number) show.cues) where
  pub tracked_split : (m : ℕ) → n ≤ m → tracked show m c ≡ walked c (level_from (cue_of show n) c (into show n c)) (later show n m)
  tracked_split m le = ap (λ (s : Show). tracked s m c) (sym (same_show show n sorted))
      ∙ tracked_changed show n m c (cue_of show n) (found_here (λ (x : Cue). x.number) n show.cues) le sorted

  pub tracked_at : tracked show n c ≡ level_from (cue_of show n) c (into show n c)
  tracked_at = tracked_split n (omega arith) ∙ ap (walked c (level_from (cue_of show n) c (into show n c))) (none_later show n)

  pub tracked_on : (m : ℕ) → n ≤ m → tracked show m c ≡ walked c (tracked show n c) (later show n m)
  tracked_on m le = tracked_split m le ∙ ap (λ level. walked c level (later show n m)) (sym tracked_at)

-- a list that begins with what is found first
begins : {A : Type 0} (key : A → ℕ) (x : A) (ys : List A) → slice_get ys 0 ≡ Some x → IsStrictlySorted key ys
    → entries_up_to key (key x) ys ≡ x ∷ []
begins key x [] is sorted = absurd (none_differs x is)
begins {A} key x (y ∷ ys) is sorted =
    subst (λ (z : A). entries_up_to key (key z) (y ∷ ys) ≡ z ∷ []) (some_same y x is)
    (rw (le_true (key y) (key y) (omega arith))
    (ap (λ zs. y ∷ zs) (filter_none _ ys (each _ _ ys (λ z h. le_false (key z) (key y) h) sorted.0))))

-- of the cues above a number, those up to the first are that one
pub up_to_first : (show : Show) (n : ℕ) (above : Cue) → IsStrictlySorted (λ x. x.number) show.cues → cue_above show n ≡ Some above
    → later show n above.number ≡ above ∷ []
up_to_first show n above sorted is = begins (λ (x : Cue). x.number) above (entries_above (λ x. x.number) n show.cues)
    (find_first (λ (x : Cue). nat_lt n x.number) show.cues ∙ is) (IsStrictlySorted-filter (λ (x : Cue). x.number) _ show.cues sorted)
