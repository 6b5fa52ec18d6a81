-- The states of a reading: each comes to the last of its entries for each thing.
use Rattle.lx_reader.proofs.Imports.{◌≡◌, ℕ, ◌+◌, ◌-◌, ◌≤◌, Bool, true, false, cond, List, [], ◌∷◌, ◌++◌, map, length, drop, Option, Some, None, refl}
use Rattle.lx_reader.proofs.Imports.{ap, ◌∙◌, sym, subst, arith, ◌&&◌, ◌==◌, not, max, fold, flat_map, unwrap_or, count_by, position, IfSome}
use Rattle.lx_reader.proofs.Imports.{option_map_or, after_last, suffix_len, prefix_len, reverse-append, drop-append-le, drop_all, length-append}
use Rattle.lx_reader.proofs.Imports.{fold-append, count_by-le-length, DEFAULT_CHANNELS, Form, Show, by_form, NoRecord, Entry, ClearsAll, PlacedEntry}
use Rattle.lx_reader.proofs.Imports.{channels_set, clears_all, is_skipped, section_begun, facts_after, reading_from, channels_named, last_in, IsOpen}
use Rattle.lx_reader.proofs.Imports.{ReadingState, later, first_state, state_after, placed_in, facts_in, final_reading, show_with, inl, inr, suc}
use Rattle.lx_reader.proofs.Imports.{eq_above, cases_Bool, position_from-zero, position_from, and_right}
use Rattle.lx_reader.proofs.LastEntries.{last_in-more}
use Rattle.lx_reader.proofs.Shows.{show_so_far, show-more, greatest-from, IsRooted, IsBegun}
use Rattle.lx_reader.proofs.NamedRecords.{begun_open, begun_next, begun_none, cues_next, cue_numbers, rooted-none, rooted-more}

-- what was said since the last CLEAR ALL
abbrev pub since_cleared : List PlacedEntry → List PlacedEntry
since_cleared all = after_last (λ e. clears_all e.entry) all

-- What stands after the last that passes, with one more.
suffix_push : {A : Type 0} (test : A → Bool) (xs : List A) (x : A)
    → suffix_len test (xs ++ x ∷ []) ≡ cond (test x) (1 + suffix_len test xs) 0
suffix_push test xs x = ap (prefix_len test) (reverse-append xs (x ∷ []))

after_push : {A : Type 0} (test : A → Bool) (xs : List A) (x : A) (b : Bool) → test x ≡ b
    → after_last test (xs ++ x ∷ []) ≡ cond b [] (after_last test xs ++ x ∷ [])
after_push test xs x true is = drop_all _ (xs ++ x ∷ []) (omega (arith, rw is at (suffix_push (λ z. not (test z)) xs x)))
after_push test xs x false is =
    let one = rw is at (suffix_push (λ z. not (test z)) xs x) in
    let place : length (xs ++ x ∷ []) - suffix_len (λ z. not (test z)) (xs ++ x ∷ []) ≡ length xs - suffix_len (λ z. not (test z)) xs =
    omega (arith, one, length-append xs (x ∷ [])) in
    ap (λ n. drop n (xs ++ x ∷ [])) place ∙ drop-append-le (length xs - suffix_len (λ z. not (test z)) xs) xs (x ∷ []) (omega arith)

-- The count of those that pass, and the first of them, with one more.
abbrev one_if : Bool → ℕ
one_if b = cond b 1 0

count_push : {A : Type 0} (test : A → Bool) (xs : List A) (x : A) → count_by test (xs ++ x ∷ []) ≡ count_by test xs + one_if (test x)
count_push test xs x = fold-append (λ a z. a + one_if (test z)) 0 xs (x ∷ [])

count_from : {A : Type 0} (test : A → Bool) (xs : List A) (n : ℕ) → fold (λ a z. a + one_if (test z)) n xs ≡ n + count_by test xs
count_from test [] n = omega arith
count_from test (x ∷ xs) n = omega (arith, count_from test xs (n + one_if (test x)), count_from test xs (0 + one_if (test x)))

-- the number of the first that passes, or 0
abbrev pub first_number : {A : Type 0} → (A → Bool) → List A → ℕ
first_number test xs = option_map_or (λ i. i + 1) (position test xs) 0

-- the same, where n stand before these
abbrev number_from : {A : Type 0} → (A → Bool) → ℕ → List A → ℕ
number_from test n xs = option_map_or (λ i. i + 1) (position_from test n xs) 0

from_push : {A : Type 0} (test : A → Bool) (xs : List A) (x : A) (n : ℕ)
    → number_from test n (xs ++ x ∷ []) ≡ cond (test x && count_by test xs == 0) (n + length xs + 1) (number_from test n xs)
from_push test [] x n = elim (test x) as (λ b. option_map_or (λ i. i + 1) (cond b (Some n) None) 0 ≡ cond (b && true) (n + 0 + 1) 0)
    [ true ↦ omega arith | false ↦ refl ]
from_push test (y ∷ xs) x n = elim (cases_Bool (test y)) [
  | inl is ↦
      let some : (fold (λ a z. a + one_if (test z)) 1 xs == 0) ≡ false =
      eq_above (fold (λ a z. a + one_if (test z)) 1 xs) 0 (omega (arith, count_from test xs 1)) in
      rw is (sym (ap (λ b. cond b (n + suc (length xs) + 1) (n + 1)) (and_right (test x) _ some)))
  | inr is ↦ rw is (from_push test xs x (n + 1) ∙ ap (λ k. cond (test x && count_by test xs == 0) k (number_from test (n + 1) xs)) (omega arith))
]

first_push : {A : Type 0} (test : A → Bool) (xs : List A) (x : A)
    → first_number test (xs ++ x ∷ []) ≡ cond (test x && count_by test xs == 0) (length xs + 1) (first_number test xs)
first_push test xs x =
    let same : 0 + length xs + 1 ≡ length xs + 1 = omega arith in
    ap (λ o. option_map_or (λ i. i + 1) o 0) (position_from-zero test (xs ++ x ∷ [])) ∙ from_push test xs x 0
    ∙ (λ j. cond (test x && count_by test xs == 0) (same j) (option_map_or (λ i. i + 1) (sym (position_from-zero test xs) j) 0))

-- what the entries come to, and what is open was begun
pub record IsStateOf (all : List PlacedEntry) (t : ReadingState) : Type 0 where
  pub rooted : IsRooted (since_cleared all)
  pub begun : IsBegun (since_cleared all) t.section t.part
  pub show : t.show ≡ show_so_far (since_cleared all)
  pub channels_set : t.channels_set ≡ last_in channels_set (since_cleared all)
  pub skipped : t.skipped ≡ count_by (λ s. is_skipped s.entry) all
  pub first_skipped : t.first_skipped ≡ first_number (λ s. is_skipped s.entry) all

pub state_none : IsStateOf [] first_state
state_none = record {
  rooted = rooted-none;
  begun = begun_none [] 1;
  show = refl;
  channels_set = refl;
  skipped = refl;
  first_skipped =
      refl;
}

-- One more entry: where it clears all nothing is left, and else it is one more of those since.
record Cleared (all : List PlacedEntry) (next : ReadingState) (known : List ℕ) : Type 0 where
  rooted : IsRooted (since_cleared all)
  begun : IsBegun (since_cleared all) next.section next.part
  show : next.show ≡ show_so_far (since_cleared all)
  channels_set : next.channels_set ≡ last_in channels_set (since_cleared all)
  cues : known ≡ map (λ cue. cue.number) next.show.cues

clear_begins : (e : Entry) → clears_all e ≡ true → section_begun e ≡ Some NoRecord
clear_begins e = elim e as (λ e. clears_all e ≡ true → section_begun e ≡ Some NoRecord) [ ClearsAll ↦ λ is. refl | _ ↦ λ is. cc ]

skipped_by : (n : ℕ) (b : Bool) → cond b (n + 1) n ≡ n + one_if b
skipped_by n true = refl
skipped_by n false = omega arith

module _ {all : List PlacedEntry} {t : ReadingState} (i : ℕ) (e : Entry) (state : IsStateOf all t) where
  abbrev s : PlacedEntry
  s = placed_in t e

  abbrev about : List PlacedEntry
  about = since_cleared all

  cleared_by : (b : Bool) → clears_all e ≡ b → Cleared (all ++ s ∷ []) (state_after i e t) (facts_after (facts_in t i) e).cues
  cleared_by true clears =
      let none : since_cleared (all ++ s ∷ []) ≡ [] = after_push (λ z. clears_all z.entry) all s true clears in
      record {
        rooted = subst IsRooted (sym none) rooted-none;
        begun = rw (clear_begins e clears) (begun_none _ 1);
        show = rw clears (sym (ap show_so_far none));
        channels_set = rw clears (sym (ap (last_in channels_set) none));
        cues = rw clears refl;
      }
  cleared_by false clears =
      let more : since_cleared (all ++ s ∷ []) ≡ about ++ s ∷ [] = after_push (λ z. clears_all z.entry) all s false clears in
      let shows : show_with s t.show ≡ show_so_far (about ++ s ∷ []) = ap (show_with s) state.show
      ∙ sym (show-more about s state.rooted state.begun) in
      record {
        rooted = subst IsRooted (sym more) (rooted-more about s state.rooted state.begun);
        begun = rw more (begun_next about s t.part state.begun);
        show = rw clears (shows ∙ sym (ap show_so_far more));
        channels_set = rw clears (ap (later (channels_set e)) state.channels_set
            ∙ sym (last_in-more channels_set about s) ∙ sym (ap (last_in channels_set) more));
        cues = rw clears (cues_next about s (map (λ cue. cue.number) t.show.cues)
            (ap (λ z. map (λ cue. cue.number) z.cues) state.show ∙ cue_numbers about)
            ∙ sym (ap (λ z. map (λ cue. cue.number) z.cues) shows ∙ cue_numbers (about ++ s ∷ [])));
      }

  pub state_more : i ≡ length all + 1 → IsStateOf (all ++ placed_in t e ∷ []) (state_after i e t)
  state_more number =
      let each = cleared_by (clears_all e) refl in
      record {
        rooted = each.rooted;
        begun = each.begun;
        show = each.show;
        channels_set = each.channels_set;
        skipped = skipped_by t.skipped (is_skipped e) ∙ ap (λ n. n + one_if (is_skipped e)) state.skipped
            ∙ sym (count_push (λ z. is_skipped z.entry) all s);
        first_skipped =
            (λ j. cond (is_skipped e && state.skipped j == 0) (number j) (state.first_skipped j))
            ∙ sym (first_push (λ z. is_skipped z.entry) all s);
      }

  -- the facts of the state after it are those after the entry
  pub state_facts : facts_after (facts_in t i) e ≡ facts_in (state_after i e t) (i + 1)
  state_facts =
      let cues = (cleared_by (clears_all e) refl).cues in
      λ j. record (facts_after (facts_in t i) e) { cues = cues j }

-- what the section is of is there
pub state_open : {all : List PlacedEntry} {t : ReadingState} → IsStateOf all t → IsOpen t.show t.section t.part
state_open {all} {t} state =
    subst (λ z. IsOpen z t.section t.part) (sym state.show) (begun_open (since_cleared all) t.section t.part state.begun)

pub skipped_few : {all : List PlacedEntry} {t : ReadingState} → IsStateOf all t → t.skipped ≤ length all
skipped_few {all} state = omega (arith, state.skipped, count_by-le-length (λ s. is_skipped s.entry) all)

-- The channel count is the greatest channel that was named, and at least what SET CHANNELS says.
set_or_default : (o : Option ℕ) → IfSome o (λ n. 1 ≤ n) → 1 ≤ unwrap_or o DEFAULT_CHANNELS
set_or_default None h = omega arith
set_or_default (Some n) h = h

counted : (named : List ℕ) (n : ℕ) → 1 ≤ n → max (fold max 1 named) n ≡ fold max n named
counted named n least =
    let same : max n 1 ≡ n = omega arith in omega (arith, greatest-from n 1 named, ap (λ k. fold max k named) same)

pub state_reading : (form : Form) {all : List PlacedEntry} {t : ReadingState} → IsStateOf all t → IfSome t.channels_set (λ n. 1 ≤ n)
    → reading_from form all ≡ final_reading form t
state_reading form {all} {t} state least =
    let named : List ℕ = flat_map (λ s. channels_named s.entry) (since_cleared all) in
    let channels : max t.show.channels (unwrap_or t.channels_set DEFAULT_CHANNELS)
    ≡ fold max (unwrap_or (last_in channels_set (since_cleared all)) DEFAULT_CHANNELS) named
    = (λ i. max (state.show i).channels (unwrap_or t.channels_set DEFAULT_CHANNELS))
    ∙ counted named (unwrap_or t.channels_set DEFAULT_CHANNELS) (set_or_default t.channels_set least)
    ∙ ap (λ o. fold max (unwrap_or o DEFAULT_CHANNELS) named) state.channels_set in
    λ i. let z : Show = sym state.show i in record {
      show = by_form form (record z { channels = sym channels i });
      skipped = sym state.skipped i;
      first_skipped = sym state.first_skipped i;
    }
