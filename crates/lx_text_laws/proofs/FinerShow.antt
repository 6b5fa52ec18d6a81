-- The show of entries in finer steps is the show in finer steps, so an old text is read as that show.
use Rattle.lx_text_laws.proofs.Imports.{flat_map-map, ◌≡◌, ℕ, ◌+◌, ◌*◌, max, Bool, false, ◌==◌, Option, Some, None, List, [], ◌∷◌, map, filter, fold}
use Rattle.lx_text_laws.proofs.Imports.{flat_map, filter_map, option_map, option_and_then, unwrap_or, position, count_by, refl, option_map_or}
use Rattle.lx_text_laws.proofs.Imports.{list_any, after_last, last_or, ap, ◌∙◌, DEFAULT_CHANNELS, DEFAULT_TIME, Form, Moves, States, Section, InCue}
use Rattle.lx_text_laws.proofs.Imports.{Cue, Show, level_in, look_moves, from_looks, by_form, Entry, PlacedEntry, Begins, Skipped, Links}
use Rattle.lx_text_laws.proofs.Imports.{section_begun, channels_set, rows_in, levels_in, part_named, up_in, down_in, follow_in, link_in, label_in}
use Rattle.lx_text_laws.proofs.Imports.{blocks, is_assert, is_skipped, clears_all, cue_in, group_in, sub_in, last_of_each, last_in, numbers_begun}
use Rattle.lx_text_laws.proofs.Imports.{stands_in, each_record, label_from, part_from, moves_in, parts_from, cue_from, group_from, channels_named}
use Rattle.lx_text_laws.proofs.Imports.{show_from, reading_from, finer_cue, finer, Result, Ok, Err, IfOk, TextFault, ◌>>=◌, Limits, lines_of}
use Rattle.lx_text_laws.proofs.Imports.{first_facts, entries, reads_under, count_read, HasOneDecimalMore, ReadsFiner}
use mathlib.Core.List.{map-map}
use Rattle.lx_text_laws.proofs.FinerLists.{filter-mapped, filter_map-mapped, any-mapped, count-mapped, position-mapped}
use Rattle.lx_text_laws.proofs.FinerLists.{after_last-mapped, last-mapped, filter_map-then, tenfold-eq, last_of_each-tenfold}
use Rattle.lx_text_laws.proofs.FinerLines.{Kept, finer_section, finer_entry, finer_placed, entries-kept, count-kept}

-- What doesn't look at cue numbers is the same of an entry in finer steps.
abbrev Same : {A : Type 0} → (Entry → A) → Type 0
Same look = (e : Entry) → look (finer_entry e) ≡ look e

alike : {A : Type 0} (look : Entry → A) → ((s : Section) → look (Begins (finer_section s)) ≡ look (Begins s))
    → ((s : Option Section) → look (Skipped (option_map finer_section s)) ≡ look (Skipped s))
    → ((n : ℕ) → look (Links (10 * n)) ≡ look (Links n)) → Same look
alike look begun skipped linked (Begins s) = begun s
alike look begun skipped linked (Skipped s) = skipped s
alike look begun skipped linked (Links n) = linked n
alike look begun skipped linked other = refl

module _ {A : Type 0} where
  all-same : (look : Entry → List A) → Same look → (es : List PlacedEntry)
      → flat_map (λ e. look e.entry) (map finer_placed es) ≡ flat_map (λ e. look e.entry) es
  all-same look is es = flat_map-map (λ e. look e.entry) finer_placed es ∙ (λ j. flat_map (λ e. is e.entry j) es)

  some-same : (look : Entry → Option A) → Same look → (es : List PlacedEntry)
      → filter_map (λ e. look e.entry) (map finer_placed es) ≡ filter_map (λ e. look e.entry) es
  some-same look is es = filter_map-mapped finer_placed (λ e. look e.entry) es ∙ (λ j. filter_map (λ e. is e.entry j) es)

  last-same : (look : Entry → Option A) → Same look → (es : List PlacedEntry) → last_in look (map finer_placed es) ≡ last_in look es
  last-same look is es = ap (last_or None) (some-same look is es)

any-same : (look : Entry → Bool) → Same look → (es : List PlacedEntry)
    → list_any (λ e. look e.entry) (map finer_placed es) ≡ list_any (λ e. look e.entry) es
any-same look is es = any-mapped finer_placed (λ e. look e.entry) es ∙ (λ j. list_any (λ e. is e.entry j) es)

levels-alike : Same levels_in
levels-alike = alike levels_in (λ s. refl) (λ s. refl) (λ n. refl)

label-same : (es : List PlacedEntry) → label_from (map finer_placed es) ≡ label_from es
label-same es = ap (λ o. unwrap_or o []) (last-same label_in (alike label_in (λ s. refl) (λ s. refl) (λ n. refl)) es)

-- A cue of its entries.
part-same : (es : List PlacedEntry) (p : ℕ) → part_from (map finer_placed es) p ≡ part_from es p
part-same es p =
    let ups = last-same up_in (alike up_in (λ s. refl) (λ s. refl) (λ n. refl)) es in
    let downs = last-same down_in (alike down_in (λ s. refl) (λ s. refl) (λ n. refl)) es in
    (λ j. let up = unwrap_or (ups j) (DEFAULT_TIME, 0) in
    let down = unwrap_or (downs j) (DEFAULT_TIME, 0) in
    record { number = p; up = up.0; up_delay = up.1; down = down.0; down_delay = down.1 })

parts-same : (es : List PlacedEntry) → parts_from (map finer_placed es) ≡ parts_from es
parts-same es =
    let numbers : List ℕ → List ℕ = λ ns. last_of_each (λ n. n) (1 ∷ ns) in
    let in_part = λ (p : ℕ). ap (λ about. part_from about p) (filter-mapped finer_placed (λ e. e.part == p) es)
    ∙ part-same (filter (λ e. e.part == p) es) p in
    (λ j. map (λ p. in_part p j)
    (numbers (some-same part_named (alike part_named (λ s. refl) (λ s. refl) (λ n. refl)) es j)))

moves-same : (es : List PlacedEntry) → flat_map moves_in (map finer_placed es) ≡ flat_map moves_in es
moves-same es = flat_map-map moves_in finer_placed es
    ∙ (λ j. flat_map (λ e. map (λ m. record { chan = m.chan; part = e.part; level = m.level }) (levels-alike e.entry j)) es)

link-finer : (e : Entry) → link_in (finer_entry e) ≡ option_map (λ n. 10 * n) (link_in e)
link-finer (Links n) = refl
link-finer (Begins s) = refl
link-finer (Skipped s) = refl
link-finer other = refl

links-finer : (es : List PlacedEntry) → last_in link_in (map finer_placed es) ≡ option_map (λ n. 10 * n) (last_in link_in es)
links-finer es =
    ap (last_or None)
    (filter_map-mapped finer_placed (λ e. link_in e.entry) es ∙ (λ j. filter_map (λ e. link-finer e.entry j) es)
    ∙ filter_map-then (λ n. 10 * n) (λ e. link_in e.entry) es)
    ∙ last-mapped (λ n. 10 * n) None (filter_map (λ e. link_in e.entry) es)

cue-finer : (es : List PlacedEntry) (n : ℕ) → cue_from (map finer_placed es) (10 * n) ≡ finer_cue (cue_from es n)
cue-finer es n = λ j. record {
  number = 10 * n;
  block = any-same blocks (alike blocks (λ s. refl) (λ s. refl) (λ n. refl)) es j;
  asserted = any-same is_assert (alike is_assert (λ s. refl) (λ s. refl) (λ n. refl)) es j;
  follow = last-same follow_in (alike follow_in (λ s. refl) (λ s. refl) (λ n. refl)) es j;
  link = links-finer es j;
  label = label-same es j;
  parts = parts-same es j;
  moves = last_of_each (λ m. m.chan) (moves-same es j);
}

begun-finer : (e : Entry)
    → option_and_then cue_in (section_begun (finer_entry e)) ≡ option_map (λ n. 10 * n) (option_and_then cue_in (section_begun e))
begun-finer (Begins (InCue n)) = refl
begun-finer (Begins other) = refl
begun-finer (Skipped None) = refl
begun-finer (Skipped (Some (InCue n))) = refl
begun-finer (Skipped (Some other)) = refl
begun-finer (Links n) = refl
begun-finer other = refl

stands-finer : (n : ℕ) (s : Section) → option_map_or (λ m. m == 10 * n) (cue_in (finer_section s)) false
    ≡ option_map_or (λ m. m == n) (cue_in s) false
stands-finer n (InCue m) = tenfold-eq m n
stands-finer n other = refl

cues-finer : (es : List PlacedEntry) → each_record cue_in cue_from (map finer_placed es) ≡ map finer_cue (each_record cue_in cue_from es)
cues-finer es =
    let begun = filter_map-mapped finer_placed (λ e. option_and_then cue_in (section_begun e.entry)) es
    ∙ (λ j. filter_map (λ e. begun-finer e.entry j) es)
    ∙ filter_map-then (λ n. 10 * n) (λ e. option_and_then cue_in (section_begun e.entry)) es in
    let numbers : numbers_begun cue_in (map finer_placed es) ≡ map (λ n. 10 * n) (numbers_begun cue_in es) =
    ap (last_of_each (λ n. n)) begun
    ∙ last_of_each-tenfold (filter_map (λ e. option_and_then cue_in (section_begun e.entry)) es) in
    let one = λ (n : ℕ). ap (λ about. cue_from about (10 * n))
    (filter-mapped finer_placed (stands_in cue_in (10 * n)) es ∙ (λ j. map finer_placed (filter (λ e. stands-finer n e.section j) es)))
    ∙ cue-finer (filter (stands_in cue_in n) es) n in
    simp (numbers, map-map) (λ j. map (λ n. one n j) (numbers_begun cue_in es))

-- Groups and submasters have numbers of their own.
set-same : (es : List PlacedEntry) (n : ℕ) → group_from (map finer_placed es) n ≡ group_from es n
set-same es n =
    λ j. record { number = n; label = label-same es j; members = last_of_each (λ m. m.chan) (all-same levels_in levels-alike es j) }

module _ (number : Section → Option ℕ) (own : (s : Section) → number (finer_section s) ≡ number s) where
  begun-same : (s : Option Section) → option_and_then number (option_map finer_section s) ≡ option_and_then number s
  begun-same None = refl
  begun-same (Some s) = own s

  sets-same : (es : List PlacedEntry) → each_record number group_from (map finer_placed es) ≡ each_record number group_from es
  sets-same es =
      let begun = λ (e : Entry). option_and_then number (section_begun e) in
      let one = λ (n : ℕ). ap (λ about. group_from about n)
      (filter-mapped finer_placed (stands_in number n) es
      ∙ (λ j. map finer_placed (filter (λ e. option_map_or (λ m. m == n) (own e.section j) false) es)))
      ∙ set-same (filter (stands_in number n) es) n in
      (λ j. map (λ n. one n j) (last_of_each (λ n. n) (some-same begun (alike begun own begun-same (λ n. refl)) es j)))

group-own : (s : Section) → group_in (finer_section s) ≡ group_in s
group-own (InCue n) = refl
group-own other = refl

sub-own : (s : Section) → sub_in (finer_section s) ≡ sub_in s
sub-own (InCue n) = refl
sub-own other = refl

-- The show, and the reading.
abbrev finer_show : Show → Show
finer_show show = record show { cues = map finer_cue show.cues }

show-finer : (es : List PlacedEntry) → show_from (map finer_placed es) ≡ finer_show (show_from es)
show-finer es = λ j. record {
  channels = fold max
      (unwrap_or (last-same channels_set (alike channels_set (λ s. refl) (λ s. refl) (λ n. refl)) es j) DEFAULT_CHANNELS)
      (all-same channels_named (alike channels_named (λ s. refl) (λ s. refl) (λ n. refl)) es j);
  cues = cues-finer es j;
  groups = sets-same group_in group-own es j;
  subs = sets-same sub_in sub-own es j;
  patch = last_of_each (λ row. row.dimmer) (all-same rows_in (alike rows_in (λ s. refl) (λ s. refl) (λ n. refl)) es j);
}

looks-finer : (show : Show) (before : ℕ → ℕ) (cues : List Cue)
    → from_looks (finer_show show) before (map finer_cue cues) ≡ map finer_cue (from_looks show before cues)
looks-finer show before [] = refl
looks-finer show before (cue ∷ cues) =
    ap (λ rest. record (finer_cue cue) { moves = look_moves show before cue } ∷ rest) (looks-finer show (λ c. level_in cue c) cues)

form-finer : (form : Form) (show : Show) → by_form form (finer_show show) ≡ finer_show (by_form form show)
form-finer Moves show = refl
form-finer States show = λ j. record show { cues = looks-finer show (λ c. 0) show.cues j }

pub reading-finer : (form : Form) (es : List PlacedEntry) → reading_from form (map finer_placed es) ≡ finer (reading_from form es)
reading-finer form es =
    let clears : Same clears_all = alike clears_all (λ s. refl) (λ s. refl) (λ n. refl) in
    let skips : Same is_skipped = alike is_skipped (λ s. refl) (λ s. refl) (λ n. refl) in
    let kept = after_last-mapped finer_placed (λ e. clears_all e.entry) es
    ∙ (λ j. map finer_placed (after_last (λ e. clears e.entry j) es)) in
    let counted = count-mapped finer_placed (λ e. is_skipped e.entry) es
    ∙ (λ j. count_by (λ e. skips e.entry j) es) in
    let first = position-mapped finer_placed (λ e. is_skipped e.entry) es
    ∙ (λ j. position (λ e. skips e.entry j) es) in
    let show = ap (λ all. by_form form (show_from all)) kept
    ∙ ap (by_form form) (show-finer (after_last (λ e. clears_all e.entry) es))
    ∙ form-finer form (show_from (after_last (λ e. clears_all e.entry) es)) in
    (λ j. record { show = show j; skipped = counted j; first_skipped = option_map_or (λ i. i + 1) (first j) 0 })

pub old_texts : (now before : Limits) (form : Form) (bytes : List ℕ) → HasOneDecimalMore now before
    → IfOk (reads_under before form bytes) (ReadsFiner now before form bytes)
old_texts now before form bytes more =
    of_entries (entries (first_facts before) (lines_of bytes)) (entries-kept now (first_facts before) (lines_of bytes) more)
    (count-kept now (first_facts before) (lines_of bytes) more)
  where
    of_entries : (r : Result (List PlacedEntry) TextFault) → Kept (map finer_placed) r (entries (first_facts now) (lines_of bytes))
        → IfOk r (λ all. count_read (first_facts now) (lines_of bytes) ≡ count_read (first_facts before) (lines_of bytes))
        → IfOk (r >>= (λ all. Ok (reading_from form all))) (ReadsFiner now before form bytes)
    of_entries (Ok all) is count = record {
      reading_now = ap (λ r. r >>= (λ all. Ok (reading_from form all))) is.is ∙ ap Ok (reading-finer form all);
      lines = count;
    }
    of_entries (Err fault) is count = tt
