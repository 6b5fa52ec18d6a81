-- The show of the entries, with one more.
use Rattle.lx_reader.proofs.Imports.{◌≡◌, ℕ, Bool, true, false, cond, List, [], ◌∷◌, ◌++◌, map, Option, Some, None, refl, ap, ◌∙◌, append-nil, arith}
use Rattle.lx_reader.proofs.Imports.{filter, fold, flat_map, filter_map, option_and_then, max, IfSome, cons_option, Show, placed, has_entry, Section}
use Rattle.lx_reader.proofs.Imports.{NoRecord, Entry, Skipped, Identifies, Begins, ClearsAll, HasChannels, Patches, PlacedEntry, cue_in, group_in}
use Rattle.lx_reader.proofs.Imports.{sub_in, rows_in, numbers_begun, stands_in, each_record, cue_from, group_from, channels_named, show_from, new_cue}
use Rattle.lx_reader.proofs.Imports.{with_named, changed_in, cue_with, set_with, change_by, number_begun, speaks, new_set, show_with, cond_both}
use Rattle.lx_reader.proofs.LastEntries.{filter-more, fold_flat-more, fold_picked-more}
use Rattle.lx_reader.proofs.PlacedNumbers.{IsStrictlySorted-numbers, is_at, after_change, listed-more}
use Rattle.lx_reader.proofs.Cues.{HasPart, ArePartsRooted, cue_from-with, set_from-with}

-- the numbers that entries begin, with one entry more
pub begun-more : (number : Section → Option ℕ) (all : List PlacedEntry) (s : PlacedEntry)
    → numbers_begun number (all ++ s ∷ []) ≡ fold (λ ys x. placed (λ n. n) x ys) (numbers_begun number all)
    (cons_option (number_begun number s.entry) [])
begun-more number all s = fold_picked-more (λ ys x. placed (λ n. n) x ys) [] (λ z. number_begun number z.entry) all s

-- of what was not begun nothing was said
abbrev pub IsRootedBy : (Section → Option ℕ) → List PlacedEntry → Type 0
IsRootedBy number all = (n : ℕ) → has_entry (λ m. m) n (numbers_begun number all) ≡ false → filter (stands_in number n) all ≡ []

pub record IsRooted (all : List PlacedEntry) : Type 0 where
  pub by : (number : Section → Option ℕ) → number NoRecord ≡ None → IsRootedBy number all
  pub parts : (n : ℕ) → ArePartsRooted (filter (stands_in cue_in n) all)

-- what the section and the part are of was begun
abbrev pub IsBegunBy : (Section → Option ℕ) → List PlacedEntry → Section → Type 0
IsBegunBy number all section = (n : ℕ) → is_at n (number section) ≡ true → has_entry (λ m. m) n (numbers_begun number all) ≡ true

pub record IsBegun (all : List PlacedEntry) (section : Section) (p : ℕ) : Type 0 where
  pub by : (number : Section → Option ℕ) → number NoRecord ≡ None → IsBegunBy number all section
  pub part : (n : ℕ) → is_at n (cue_in section) ≡ true → HasPart (filter (stands_in cue_in n) all) p

some_so : {A : Type 0} (o : Option A) (P : Type 0) → P → IfSome o (λ x. P)
some_so None P p = tt
some_so (Some x) P p = p

-- an entry that begins a record changes none
alone : {A : Type 0} (number : Section → Option ℕ) (with_it : Entry → A → A) (entry : Entry)
    → IfSome (number_begun number entry) (λ n. change_by with_it entry ≡ None)
alone {A} number with_it entry = elim entry as (λ e. IfSome (number_begun number e) (λ n. change_by with_it e ≡ None)) [
  | Skipped section ↦ some_so (option_and_then number section) (None ≡ None) refl
  | Identifies ↦ some_so (number NoRecord) (None ≡ None) refl
  | Begins section ↦ some_so (number section) (None ≡ None) refl
  | ClearsAll ↦ some_so (number NoRecord) (None ≡ None) refl
  | HasChannels n ↦ some_so (number NoRecord) (None ≡ None) refl
  | Patches rows ↦ some_so (number NoRecord) (None ≡ None) refl
  | _ ↦ tt
]

-- The cues, groups or submasters with one entry more, which changes the one in whose section it stands.
abbrev pub made : {A : Type 0} → (Section → Option ℕ) → (List PlacedEntry → ℕ → A) → List PlacedEntry → ℕ → A
made number from all n = from (filter (stands_in number n) all) n

pub each_record-more : {A : Type 0} (key : A → ℕ) (new : ℕ → A) (number : Section → Option ℕ) (from : List PlacedEntry → ℕ → A)
    (with_it : Entry → A → A) (all : List PlacedEntry) (s : PlacedEntry)
    → ((x : A) → key (with_it s.entry x) ≡ key x) → ((about : List PlacedEntry) (n : ℕ) → key (from about n) ≡ n)
    → ((n : ℕ) → from [] n ≡ new n)
    → ((n : ℕ) (b : Bool) → stands_in number n s ≡ b
    → from (filter (stands_in number n) all ++ cond b (s ∷ []) []) n
    ≡ cond b (after_change (change_by with_it s.entry) (made number from all n)) (made number from all n))
    → IsRootedBy number all → IsBegunBy number all s.section
    → each_record number from (all ++ s ∷ [])
    ≡ changed_in key (change_by with_it s.entry) (number s.section)
    (with_named key new (number_begun number s.entry) (each_record number from all))
each_record-more {A} key new number from with_it all s keys numbered fresh more rooted begun =
    (λ i. map (made number from (all ++ s ∷ [])) (begun-more number all s i))
    ∙ listed-more key new (number_begun number s.entry) (change_by with_it s.entry) (number s.section) (made number from all)
    (made number from (all ++ s ∷ [])) (numbers_begun number all)
    (alone number with_it s.entry) (λ x. cond_both (speaks s.entry) (Some (with_it s.entry)) None (λ o. key (after_change o x) ≡ key x) (λ is. keys x) (λ is. refl))
    (λ n. numbered (filter (stands_in number n) all) n)
    (IsStrictlySorted-numbers (filter_map (λ z. number_begun number z.entry) all)) begun
    (λ n absent. ap (λ v. from v n) (rooted n absent) ∙ fresh n)
    (λ n. ap (λ v. from v n) (filter-more (stands_in number n) all s) ∙ more n (stands_in number n s) refl)

cue_some : (about : List PlacedEntry) (s : PlacedEntry) (n : ℕ) (b : Bool) → (b ≡ true → HasPart about s.part)
    → ArePartsRooted about
    → cue_from (about ++ cond b (s ∷ []) []) n
    ≡ cond b (after_change (change_by (cue_with s.part) s.entry) (cue_from about n)) (cue_from about n)
cue_some about s n true part rooted = cue_from-with about s.section s.part s.entry n (part refl) rooted
cue_some about s n false part rooted = ap (λ v. cue_from v n) (append-nil about)

set_some : (about : List PlacedEntry) (s : PlacedEntry) (g : ℕ) (b : Bool)
    → group_from (about ++ cond b (s ∷ []) []) g
    ≡ cond b (after_change (change_by set_with s.entry) (group_from about g)) (group_from about g)
set_some about s g true = set_from-with about s g
set_some about s g false = ap (λ v. group_from v g) (append-nil about)

-- The show so far: its channel count is the greatest channel that was named.
abbrev pub show_so_far : List PlacedEntry → Show
show_so_far all = record (show_from all) { channels = fold max 1 (flat_map (λ s. channels_named s.entry) all) }

pub show-more : (all : List PlacedEntry) (s : PlacedEntry) → IsRooted all → IsBegun all s.section s.part
    → show_so_far (all ++ s ∷ []) ≡ show_with s (show_so_far all)
show-more all s rooted begun =
    let in_cue = λ (n : ℕ). filter (stands_in cue_in n) all in
    let cues = each_record-more (λ cue. cue.number) new_cue cue_in cue_from (cue_with s.part) all s (λ x. refl) (λ about n. refl)
    (λ n. refl)
    (λ n b is. cue_some (in_cue n) s n b (λ t. begun.part n (is ∙ t)) (rooted.parts n))
    (rooted.by cue_in refl) (begun.by cue_in refl) in
    let sets = λ (number : Section → Option ℕ) (none : number NoRecord ≡ None).
    each_record-more (λ set. set.number) new_set number group_from set_with all s (λ x. refl) (λ about n. refl) (λ n. refl)
    (λ n b is. set_some (filter (stands_in number n) all) s n b) (rooted.by number none) (begun.by number none) in
    let channels = fold_flat-more max 1 (λ z. channels_named z.entry) all s in
    let patch = fold_flat-more (λ ys x. placed (λ row. row.dimmer) x ys) [] (λ z. rows_in z.entry) all s in
    λ i. record { channels = channels i; cues = cues i; groups = sets group_in refl i; subs = sets sub_in refl i; patch = patch i }

-- the greatest of a number and others
pub greatest-from : (a b : ℕ) (xs : List ℕ) → fold max (max a b) xs ≡ max a (fold max b xs)
greatest-from a b [] = refl
greatest-from a b (x ∷ xs) =
    let same : max (max a b) x ≡ max a (max b x) = omega arith in ap (λ v. fold max v xs) same ∙ greatest-from a (max b x) xs
