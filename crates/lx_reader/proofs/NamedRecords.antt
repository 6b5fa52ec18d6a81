-- What the section is of was begun, and is there: before a line, and after it. Of what was not begun nothing was said.
use Rattle.lx_reader.proofs.Imports.{◌≡◌, ℕ, true, cond, List, [], ◌∷◌, ◌++◌, Option, Some, None, refl, ap, ◌∙◌, sym, subst, IsTrue, filter}
use Rattle.lx_reader.proofs.Imports.{filter_map, fold, map, is_some, unwrap_or, option_and_then, cons_option, IsSomeAnd, eqb-true, placed, has_entry}
use Rattle.lx_reader.proofs.Imports.{cue_of, with_cue_named, Section, NoRecord, InCue, InGroup, InSub, Skipping, PlacedEntry, section_begun}
use Rattle.lx_reader.proofs.Imports.{part_named, cue_in, group_in, sub_in, numbers_begun, stands_in, cue_from, group_from, sub_from, HasPartIn}
use Rattle.lx_reader.proofs.Imports.{IsOpen, number_begun, Bool, false, append-nil, ◌==◌, false_from_ne_true, true≢false}
use Rattle.lx_reader.proofs.LastEntries.{filter-more}
use Rattle.lx_reader.proofs.PlacedNumbers.{entry_made, has_made, has-here, has-all_placed, eq-here, is_at}
use Rattle.lx_reader.proofs.Cues.{part_of, parts_named, parts_named-more, HasPart}
use Rattle.lx_reader.proofs.Shows.{begun-more, made, show_so_far, IsBegunBy, IsBegun, IsRootedBy, IsRooted}

-- What was begun is there.
part_there : (all : List PlacedEntry) (m p : ℕ) → has_entry (λ k. k) m (numbers_begun cue_in all) ≡ true
    → HasPart (filter (stands_in cue_in m) all) p → HasPartIn (show_so_far all) m p
part_there all m p begun part =
    let found : cue_of (show_so_far all) m ≡ Some (made cue_in cue_from all m) =
    entry_made (λ cue. cue.number) (made cue_in cue_from all) (λ k. refl) m (numbers_begun cue_in all)
    ∙ ap (λ b. cond b (Some (made cue_in cue_from all m)) None) begun in
    subst (λ o. IsSomeAnd o (λ cue. IsTrue (has_entry (λ part. part.number) p cue.parts))) (sym found)
    (has_made (λ part. part.number) (part_of (filter (stands_in cue_in m) all)) (λ k. refl) p
    (parts_named (filter (stands_in cue_in m) all)) ∙ part)

pub begun_open : (all : List PlacedEntry) (section : Section) (p : ℕ) → IsBegun all section p → IsOpen (show_so_far all) section p
begun_open all (InCue m) p begun = part_there all m p (begun.by cue_in refl m (eq-here m)) (begun.part m (eq-here m))
begun_open all (InGroup m) p begun = has_made (λ group. group.number) (made group_in group_from all) (λ k. refl) m
    (numbers_begun group_in all) ∙ begun.by group_in refl m (eq-here m)
begun_open all (InSub m) p begun = has_made (λ sub. sub.number) (made sub_in sub_from all) (λ k. refl) m (numbers_begun sub_in all)
    ∙ begun.by sub_in refl m (eq-here m)
begun_open all NoRecord p begun = tt
begun_open all Skipping p begun = tt

-- One more line: what was named before is there, and what is named now.
still_named : (k : ℕ) (ns : List ℕ) {all : List ℕ} (o : Option ℕ) → all ≡ fold (λ ys x. placed (λ k. k) x ys) ns (cons_option o [])
    → has_entry (λ k. k) k ns ≡ true → has_entry (λ k. k) k all ≡ true
still_named k ns o is there = ap (has_entry (λ k. k) k) is ∙ has-all_placed k (cons_option o []) ns there

now_named : (k : ℕ) (ns : List ℕ) {all : List ℕ} {o : Option ℕ} → all ≡ fold (λ ys x. placed (λ k. k) x ys) ns (cons_option o [])
    → o ≡ Some k → has_entry (λ k. k) k all ≡ true
now_named k ns is names =
    ap (has_entry (λ k. k) k) (is ∙ ap (λ o. fold (λ ys x. placed (λ k. k) x ys) ns (cons_option o [])) names) ∙ has-here k ns

at_is : (n : ℕ) (o : Option ℕ) → is_at n o ≡ true → o ≡ Some n
at_is n None is = cc
at_is n (Some m) is = ap Some (eqb-true m n is)

begun_by : (number : Section → Option ℕ) (all : List PlacedEntry) (s : PlacedEntry) (o : Option Section) → section_begun s.entry ≡ o
    → IsBegunBy number all s.section → IsBegunBy number (all ++ s ∷ []) (unwrap_or o s.section)
begun_by number all s None begins before n is =
    still_named n (numbers_begun number all) (number_begun number s.entry) (begun-more number all s) (before n is)
begun_by number all s (Some section) begins before n is =
    now_named n (numbers_begun number all) (begun-more number all s) (ap (option_and_then number) begins ∙ at_is n (number section) is)

first_part : (about : List PlacedEntry) → HasPart about 1
first_part about = has-all_placed 1 (filter_map (λ s. part_named s.entry) about) (1 ∷ []) (has-here 1 [])

part_more : (about : List PlacedEntry) (s : PlacedEntry) (named : Option ℕ) (p : ℕ) → part_named s.entry ≡ named → HasPart about p
    → HasPart (about ++ s ∷ []) (unwrap_or named p)
part_more about s None p names there = still_named p (parts_named about) (part_named s.entry) (parts_named-more about s) there
part_more about s (Some q) p names there = now_named q (parts_named about) (parts_named-more about s) names

-- the cue in whose section the entry stands has the part that is open then
part_by : (all : List PlacedEntry) (s : PlacedEntry) (p : ℕ) (o : Option Section)
    → ((n : ℕ) → is_at n (cue_in s.section) ≡ true → HasPart (filter (stands_in cue_in n) all) p) → (n : ℕ)
    → is_at n (cue_in (unwrap_or o s.section)) ≡ true
    → HasPart (filter (stands_in cue_in n) (all ++ s ∷ [])) (cond (is_some o) 1 (unwrap_or (part_named s.entry) p))
part_by all s p None before n is =
    let about : filter (stands_in cue_in n) (all ++ s ∷ []) ≡ filter (stands_in cue_in n) all ++ s ∷ [] =
    filter-more (stands_in cue_in n) all s ∙ ap (λ b. filter (stands_in cue_in n) all ++ cond b (s ∷ []) []) is in
    subst (λ v. HasPart v (unwrap_or (part_named s.entry) p)) (sym about)
    (part_more (filter (stands_in cue_in n) all) s (part_named s.entry) p refl (before n is))
part_by all s p (Some section) before n is = first_part (filter (stands_in cue_in n) (all ++ s ∷ []))

pub begun_next : (all : List PlacedEntry) (s : PlacedEntry) (p : ℕ) → IsBegun all s.section p
    → IsBegun (all ++ s ∷ []) (unwrap_or (section_begun s.entry) s.section)
    (cond (is_some (section_begun s.entry)) 1 (unwrap_or (part_named s.entry) p))
begun_next all s p before = record {
  by = λ number none. begun_by number all s (section_begun s.entry) refl (before.by number none);
  part = part_by all s p (section_begun s.entry) before.part;
}

-- outside of all records nothing need be begun
pub begun_none : (all : List PlacedEntry) (p : ℕ) → IsBegun all NoRecord p
begun_none all p = record { by = λ number none n is. let odd = rw none at is in cc; part = λ n is. cc }

-- the cues that are known
with_named_is : (o : Option ℕ) (cues : List ℕ) → with_cue_named o cues ≡ fold (λ ys x. placed (λ k. k) x ys) cues (cons_option o [])
with_named_is None cues = refl
with_named_is (Some n) cues = refl

pub cues_next : (all : List PlacedEntry) (s : PlacedEntry) (cues : List ℕ) → cues ≡ numbers_begun cue_in all
    → with_cue_named (number_begun cue_in s.entry) cues ≡ numbers_begun cue_in (all ++ s ∷ [])
cues_next all s cues are = with_named_is (number_begun cue_in s.entry) cues
    ∙ ap (λ ns. fold (λ ys x. placed (λ k. k) x ys) ns (cons_option (number_begun cue_in s.entry) [])) are ∙ sym (begun-more cue_in all s)

numbers_made : (all : List PlacedEntry) (ns : List ℕ) → map (λ cue. cue.number) (map (made cue_in cue_from all) ns) ≡ ns
numbers_made all [] = refl
numbers_made all (n ∷ ns) = ap (λ v. n ∷ v) (numbers_made all ns)

pub cue_numbers : (all : List PlacedEntry) → map (λ cue. cue.number) (show_so_far all).cues ≡ numbers_begun cue_in all
cue_numbers all = numbers_made all (numbers_begun cue_in all)

-- Of what was not begun nothing was said, with one more entry.
-- what is absent among more numbers was absent among fewer
absent_before : (n : ℕ) (more ns all : List ℕ) → all ≡ fold (λ ys x. placed (λ k. k) x ys) ns more → has_entry (λ m. m) n all ≡ false
    → has_entry (λ m. m) n ns ≡ false
absent_before n more ns all is absent =
    false_from_ne_true (has_entry (λ m. m) n ns)
    (λ there. true≢false (sym (has-all_placed n more ns there) ∙ ap (has_entry (λ m. m) n) (sym is) ∙ absent))

rooted_by : (number : Section → Option ℕ) (all : List PlacedEntry) (s : PlacedEntry) → IsRootedBy number all
    → IsBegunBy number all s.section → IsRootedBy number (all ++ s ∷ [])
rooted_by number all s rooted begun n absent =
    let before : has_entry (λ m. m) n (numbers_begun number all) ≡ false =
    absent_before n (cons_option (number_begun number s.entry) []) (numbers_begun number all) (numbers_begun number (all ++ s ∷ []))
    (begun-more number all s) absent in
    let other : stands_in number n s ≡ false = false_from_ne_true (stands_in number n s) (λ is. true≢false (sym (begun n is) ∙ before)) in
    filter-more (stands_in number n) all s ∙ (λ j. rooted n before j ++ cond (other j) (s ∷ []) [])

none_in_part : (about : List PlacedEntry) (s : PlacedEntry) (q : ℕ) (b : Bool)
    → (has_entry (λ m. m) q (parts_named about) ≡ false → filter (λ z. z.part == q) about ≡ []) → (b ≡ true → HasPart about s.part)
    → has_entry (λ m. m) q (parts_named (about ++ cond b (s ∷ []) [])) ≡ false
    → filter (λ z. z.part == q) (about ++ cond b (s ∷ []) []) ≡ []
none_in_part about s q false rooted there absent =
    ap (filter (λ z. z.part == q)) (append-nil about)
    ∙ rooted (ap (λ v. has_entry (λ m. m) q (parts_named v)) (sym (append-nil about)) ∙ absent)
none_in_part about s q true rooted there absent =
    let before : has_entry (λ m. m) q (parts_named about) ≡ false =
    absent_before q (cons_option (part_named s.entry) []) (parts_named about) (parts_named (about ++ s ∷ [])) (parts_named-more about s)
    absent in
    let other : (s.part == q) ≡ false = false_from_ne_true (s.part == q)
    (λ is. true≢false (sym (there refl) ∙ ap (λ k. has_entry (λ m. m) k (parts_named about)) (eqb-true s.part q is) ∙ before)) in
    filter-more (λ z. z.part == q) about s ∙ (λ j. rooted before j ++ cond (other j) (s ∷ []) [])

pub rooted-none : IsRooted []
rooted-none = record { by = λ number none n absent. refl; parts = λ n q absent. refl }

pub rooted-more : (all : List PlacedEntry) (s : PlacedEntry) → IsRooted all → IsBegun all s.section s.part → IsRooted (all ++ s ∷ [])
rooted-more all s rooted begun = record {
  by = λ number none. rooted_by number all s (rooted.by number none) (begun.by number none);
  parts = λ n q absent.
      ap (filter (λ z. z.part == q)) (filter-more (stands_in cue_in n) all s)
      ∙ none_in_part (filter (stands_in cue_in n) all) s q (stands_in cue_in n s) (rooted.parts n q) (begun.part n)
      (ap (λ v. has_entry (λ m. m) q (parts_named v)) (sym (filter-more (stands_in cue_in n) all s)) ∙ absent);
}
