-- A cue, group or submaster from the entries in its sections, with one more.
use Rattle.lx_reader.proofs.Imports.{◌≡◌, ℕ, Bool, true, false, cond, List, [], ◌∷◌, ◌++◌, map, Option, Some, None, refl, ap, ◌∙◌, sym, append-nil}
use Rattle.lx_reader.proofs.Imports.{filter, fold, filter_map, unwrap_or, ◌==◌, cons_option, DEFAULT_TIME, Part, Section, Cue, IsStrictlySorted}
use Rattle.lx_reader.proofs.Imports.{placed, has_entry, Entry, PlacedEntry, HasUp, HasDown, NamesPart, part_named, follow_in, link_in, label_in}
use Rattle.lx_reader.proofs.Imports.{up_in, down_in, blocks, is_assert, last_of_each, last_in, moves_in, part_from, parts_from, label_from, cue_from}
use Rattle.lx_reader.proofs.Imports.{new_part, changed_in, with_named, eqb-true, IfSome, subst, with_up, with_down, parts_with, cue_with, change_by}
use Rattle.lx_reader.proofs.Imports.{MemberSet, HasLevels, levels_in, group_from, set_with}
use Rattle.lx_reader.proofs.LastEntries.{last_in-more, any-more, unwrap-later, filter-more, fold_flat-more, fold_picked-more}
use Rattle.lx_reader.proofs.PlacedNumbers.{IsStrictlySorted-numbers, after_change, listed-more}

-- the times that an entry gives a part
abbrev pub times_with : Entry → Part → Part
times_with e part =
    let up = unwrap_or (up_in e) (part.up, part.up_delay) in
    let down = unwrap_or (down_in e) (part.down, part.down_delay) in
    record { number = part.number; up = up.0; up_delay = up.1; down = down.0; down_delay = down.1 }

abbrev pub part_with : PlacedEntry → Part → Part
part_with s part = cond (s.part == part.number) (times_with s.entry part) part

-- a part of the cue, from the entries in it
abbrev pub part_of : List PlacedEntry → ℕ → Part
part_of about p = part_from (filter (λ e. e.part == p) about) p

-- one of two times, and its delay
time_more : (of : Entry → Option (ℕ × ℕ)) (here : List PlacedEntry) (s : PlacedEntry)
    → unwrap_or (last_in of (here ++ s ∷ [])) (DEFAULT_TIME, 0) ≡ unwrap_or (of s.entry) (unwrap_or (last_in of here) (DEFAULT_TIME, 0))
time_more of here s = ap (λ v. unwrap_or v (DEFAULT_TIME, 0)) (last_in-more of here s)
    ∙ unwrap-later (of s.entry) (last_in of here) (DEFAULT_TIME, 0)

part_from-more : (here : List PlacedEntry) (s : PlacedEntry) (p : ℕ) → part_from (here ++ s ∷ []) p ≡ times_with s.entry (part_from here p)
part_from-more here s p =
    let up = time_more up_in here s in
    let down = time_more down_in here s in
    λ i. record { number = p; up = (up i).0; up_delay = (up i).1; down = (down i).0; down_delay = (down i).1 }

part_from-some : (here : List PlacedEntry) (s : PlacedEntry) (p : ℕ) (b : Bool)
    → part_from (here ++ cond b (s ∷ []) []) p ≡ cond b (times_with s.entry (part_from here p)) (part_from here p)
part_from-some here s p true = part_from-more here s p
part_from-some here s p false = ap (λ v. part_from v p) (append-nil here)

pub part_of-more : (about : List PlacedEntry) (s : PlacedEntry) (p : ℕ) → part_of (about ++ s ∷ []) p ≡ part_with s (part_of about p)
part_of-more about s p = ap (λ v. part_from v p) (filter-more (λ z. z.part == p) about s)
    ∙ part_from-some (filter (λ z. z.part == p) about) s p (s.part == p)

-- the numbers of the cue's parts
abbrev pub parts_named : List PlacedEntry → List ℕ
parts_named about = last_of_each (λ n. n) (1 ∷ filter_map (λ s. part_named s.entry) about)

pub parts_named-more : (about : List PlacedEntry) (s : PlacedEntry)
    → parts_named (about ++ s ∷ []) ≡ fold (λ ys x. placed (λ n. n) x ys) (parts_named about) (cons_option (part_named s.entry) [])
parts_named-more about s = fold_picked-more (λ ys x. placed (λ n. n) x ys) (1 ∷ []) (λ z. part_named z.entry) about s

-- the numbers of the parts rise
parts_sorted : (about : List PlacedEntry) → IsStrictlySorted (λ m. m) (parts_named about)
parts_sorted about = IsStrictlySorted-numbers (1 ∷ filter_map (λ s. part_named s.entry) about)

-- the part in which the entry stands
abbrev pub HasPart : List PlacedEntry → ℕ → Type 0
HasPart about p = has_entry (λ m. m) p (parts_named about) ≡ true

-- of a part that is absent nothing was said
abbrev pub ArePartsRooted : List PlacedEntry → Type 0
ArePartsRooted about = (q : ℕ) → has_entry (λ m. m) q (parts_named about) ≡ false → filter (λ s. s.part == q) about ≡ []

-- what an entry makes of its part
abbrev times_change : Entry → Option (Part → Part)
times_change (HasUp time delay) = Some (with_up time delay)
times_change (HasDown time delay) = Some (with_down time delay)
times_change other = None

times_given : (e : Entry) (part : Part) → times_with e part ≡ after_change (times_change e) part
times_given e part = elim e as (λ e. times_with e part ≡ after_change (times_change e) part) [ HasUp time delay ↦ refl | _ ↦ refl ]

named_alone : (e : Entry) → IfSome (part_named e) (λ q. times_change e ≡ None)
named_alone e = elim e as (λ e. IfSome (part_named e) (λ q. times_change e ≡ None)) [ NamesPart q ↦ refl | _ ↦ tt ]

parts_said : (p : ℕ) (e : Entry) (parts : List Part) → changed_in (λ part. part.number) (times_change e) (Some p)
    (with_named (λ part. part.number) new_part (part_named e) parts) ≡ parts_with p e parts
parts_said p e parts = elim e as (λ e. changed_in (λ part. part.number) (times_change e) (Some p)
    (with_named (λ part. part.number) new_part (part_named e) parts) ≡ parts_with p e parts) [ NamesPart q ↦ refl | _ ↦ refl ]

pub parts-more : (about : List PlacedEntry) (section : Section) (p : ℕ) (entry : Entry) → HasPart about p → ArePartsRooted about
    → parts_from (about ++ record { section = section; part = p; entry = entry } ∷ []) ≡ parts_with p entry (parts_from about)
parts-more about section p entry there rooted =
    let s : PlacedEntry = record { section = section; part = p; entry = entry } in
    (λ i. map (λ q. part_of-more about s q i) (parts_named-more about s i))
    ∙ listed-more (λ part. part.number) new_part (part_named entry) (times_change entry) (Some p) (part_of about)
    (λ q. part_with s (part_of about q)) (parts_named about) (named_alone entry) (λ part. sym (ap (λ v. v.number) (times_given entry part)))
    (λ m. refl) (parts_sorted about) (λ n is. subst (λ k. HasPart about k) (eqb-true p n is) there)
    (λ q absent. ap (λ v. part_from v q) (rooted q absent)) (λ n i. cond (p == n) (times_given entry (part_of about n) i) (part_of about n))
    ∙ parts_said p entry (parts_from about)

pub label-more : (about : List PlacedEntry) (s : PlacedEntry)
    → label_from (about ++ s ∷ []) ≡ unwrap_or (label_in s.entry) (label_from about)
label-more about s = ap (λ v. unwrap_or v []) (last_in-more label_in about s) ∙ unwrap-later (label_in s.entry) (last_in label_in about) []

-- what doesn't speak of the cue leaves it as it is
cue_speaking : (p : ℕ) (entry : Entry) (cue : Cue) → cue_with p entry cue ≡ after_change (change_by (cue_with p) entry) cue
cue_speaking p entry cue = elim entry as (λ e. cue_with p e cue ≡ after_change (change_by (cue_with p) e) cue)
    [ NamesPart q ↦ refl | _ ↦ refl ]

pub cue_from-with : (about : List PlacedEntry) (section : Section) (p : ℕ) (entry : Entry) (n : ℕ) → HasPart about p → ArePartsRooted about
    → cue_from (about ++ record { section = section; part = p; entry = entry } ∷ []) n
    ≡ after_change (change_by (cue_with p) entry) (cue_from about n)
cue_from-with about section p entry n there rooted =
    let s : PlacedEntry = record { section = section; part = p; entry = entry } in
    let block = any-more (λ z. blocks z.entry) about s in
    let asserted = any-more (λ z. is_assert z.entry) about s in
    let follow = last_in-more follow_in about s in
    let link = last_in-more link_in about s in
    let label = label-more about s in
    let parts = parts-more about section p entry there rooted in
    let moves = fold_flat-more (λ ys x. placed (λ m. m.chan) x ys) [] moves_in about s in
    (λ i. record {
      number = n;
      block = block i;
      asserted = asserted i;
      follow = follow i;
      link = link i;
      label = label i;
      parts = parts i;
      moves = moves i;
    })
    ∙ cue_speaking p entry (cue_from about n)

-- A group or submaster from the entries in its sections, with one more.
set_speaking : (entry : Entry) (set : MemberSet) → set_with entry set ≡ after_change (change_by set_with entry) set
set_speaking entry set = elim entry as (λ e. set_with e set ≡ after_change (change_by set_with e) set)
    [ HasLevels members ↦ refl | _ ↦ refl ]

pub set_from-with : (about : List PlacedEntry) (s : PlacedEntry) (n : ℕ)
    → group_from (about ++ s ∷ []) n ≡ after_change (change_by set_with s.entry) (group_from about n)
set_from-with about s n = (λ i. record {
  number = n;
  label = label-more about s i;
  members = fold_flat-more
      (λ ys x. placed (λ m. m.chan) x ys) [] (λ z. levels_in z.entry) about s i;
})
    ∙ set_speaking s.entry (group_from about n)
