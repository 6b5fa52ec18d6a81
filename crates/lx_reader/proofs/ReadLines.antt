-- A show text that is read line by line.
use Rattle.lx_reader.proofs.Imports.{◌≡◌, ℕ, ◌+◌, ◌<◌, ◌≤◌, true, false, cond, List, [], ◌∷◌, ◌++◌, length, Result, Ok, Err, refl, ap, ◌∙◌, sym}
use Rattle.lx_reader.proofs.Imports.{subst, arith, append_assoc, append-nil, length-append, nat_lt, IfSome, nat_tests, LINE_BYTES, Form, TextFault}
use Rattle.lx_reader.proofs.Imports.{NoEndData, LineTooLong, desk_limits, tokens, ◌>>=◌, Entry, PlacedEntry, is_end, Facts, first_facts, facts_after}
use Rattle.lx_reader.proofs.Imports.{entry_by_tokens, entry_of, entries, reading_from, reads_lines, count_read, lines_read, onto, ReadingState}
use Rattle.lx_reader.proofs.Imports.{first_state, state_after, placed_in, facts_in, final_reading}
use Rattle.lx_spec.specs.Reading.{Reading}
use Rattle.lx_reader.proofs.SectionLevels.{onto_nothing, onto_again, onto_one}
use Rattle.lx_reader.proofs.ReadingStates.{IsStateOf, state_none, state_more, state_facts, state_reading}

-- The lines so far, and the state that they come to before line i: with any lines after them they mean their entries, and those of these
-- lines.
pub record ReadSoFar (lines : List (List ℕ)) (i : ℕ) (t : ReadingState) : Type 0 where
  pub placed : List PlacedEntry
  pub state : IsStateOf placed t
  pub count : length placed ≡ length lines
  pub number : i ≡ length placed + 1
  pub whole : (more : List (List ℕ)) → entries (first_facts desk_limits) (lines ++ more) ≡ onto placed (entries (facts_in t i) more)
  pub wanted : (more : List (List ℕ)) → lines_read (lines ++ more) ≡ length lines + count_read (facts_in t i) more

pub read_none : ReadSoFar [] 1 first_state
read_none = record {
  placed = [];
  state = state_none;
  count = refl;
  number = refl;
  whole = λ more. onto_nothing (entries (first_facts desk_limits) more);
  wanted = λ more. omega arith;
}

-- All of these lines are read, and no line more: with any lines after them they mean this.
pub record AreAll (form : Form) (lines : List (List ℕ)) (result : Result Reading TextFault) : Type 0 where
  pub reading : (more : List (List ℕ)) → reads_lines desk_limits form (lines ++ more) ≡ result
  pub wanted : (more : List (List ℕ)) → lines_read (lines ++ more) ≡ length lines

pub are_read : {form : Form} {lines : List (List ℕ)} {result : Result Reading TextFault} → AreAll form lines result
    → reads_lines desk_limits form lines ≡ result
are_read {form} {lines} all = ap (reads_lines desk_limits form) (sym (append-nil lines)) ∙ all.reading []

-- how many lines are read, by the result of the next one
abbrev counted : Facts → List (List ℕ) → Result Entry TextFault → ℕ
counted facts more r = elim r as (λ _. ℕ) [
  | Ok entry ↦ cond (is_end entry) 1 (count_read (facts_after facts entry) more + 1)
  | Err fault ↦ 1
]

counted_some : (facts : Facts) (more : List (List ℕ)) (r : Result Entry TextFault) → 1 ≤ counted facts more r
counted_some facts more (Err fault) = omega arith
counted_some facts more (Ok e) = elim (is_end e) as (λ b. 1 ≤ cond b 1 (count_read (facts_after facts e) more + 1))
    [ true ↦ omega arith | false ↦ omega arith ]

count_some : (facts : Facts) (more : List (List ℕ)) → 1 ≤ count_read facts more
count_some facts [] = omega arith
count_some facts (line ∷ more) = counted_some facts more (entry_of facts line)

module _ {lines : List (List ℕ)} {i : ℕ} {t : ReadingState} (so_far : ReadSoFar lines i t) where
  module _ (line : List ℕ) {e : Entry} (says : entry_of (facts_in t i) line ≡ Ok e) (goes_on : is_end e ≡ false) where
    line_entries : (more : List (List ℕ)) → entries (facts_in t i) (line ∷ more)
        ≡ onto (placed_in t e ∷ []) (entries (facts_in (state_after i e t) (i + 1)) more)
    line_entries more = rw (says, goes_on) (onto_one (placed_in t e) (entries (facts_after (facts_in t i) e) more)
        ∙ ap (λ f. onto (placed_in t e ∷ []) (entries f more)) (state_facts i e so_far.state))

    line_count : (more : List (List ℕ)) → count_read (facts_in t i) (line ∷ more) ≡ count_read (facts_in (state_after i e t) (i + 1)) more + 1
    line_count more = ap (counted (facts_in t i) more) says ∙ rw goes_on (ap (λ f. count_read f more + 1) (state_facts i e so_far.state))

    -- one more line that goes on
    pub read_more : ReadSoFar (lines ++ line ∷ []) (i + 1) (state_after i e t)
    read_more = record {
      placed = so_far.placed ++ placed_in t e ∷ [];
      state = state_more i e so_far.state so_far.number;
      count = omega (arith, so_far.count, length-append so_far.placed (placed_in t e ∷ []), length-append lines (line ∷ []));
      number = omega (arith, so_far.number, length-append so_far.placed (placed_in t e ∷ []));
      whole = λ more.
          ap (entries (first_facts desk_limits)) (append_assoc lines (line ∷ []) more)
          ∙ so_far.whole (line ∷ more) ∙ ap (onto so_far.placed) (line_entries more)
          ∙ onto_again so_far.placed (placed_in t e ∷ []) (entries (facts_in (state_after i e t) (i + 1)) more);
      wanted = λ more.
          ap lines_read (append_assoc lines (line ∷ []) more)
          ∙ omega (arith, so_far.wanted (line ∷ more), line_count more, length-append lines (line ∷ []));
    }

  -- after the next line no more are read
  all_read : (form : Form) (line : List ℕ) (r : Result (List PlacedEntry) TextFault)
      → ((more : List (List ℕ)) → onto so_far.placed (entries (facts_in t i) (line ∷ more)) ≡ r)
      → ((more : List (List ℕ)) → count_read (facts_in t i) (line ∷ more) ≡ 1)
      → AreAll form (lines ++ line ∷ []) (r >>= (λ all. Ok (reading_from form all)))
  all_read form line r is one = record {
    reading = λ more. ap (λ r. r >>= (λ all. Ok (reading_from form all)))
        (ap (entries (first_facts desk_limits)) (append_assoc lines (line ∷ []) more) ∙ so_far.whole (line ∷ more) ∙ is more);
    wanted = λ more. ap lines_read (append_assoc lines (line ∷ []) more)
        ∙ omega (arith, so_far.wanted (line ∷ more), one more, length-append lines (line ∷ []));
  }

  -- it has a fault
  pub read_refused : (form : Form) (line : List ℕ) {fault : TextFault} → entry_of (facts_in t i) line ≡ Err fault
      → AreAll form (lines ++ line ∷ []) (Err fault)
  read_refused form line {fault} says = all_read form line (Err fault) (λ more. rw says refl) (λ more. ap (counted (facts_in t i) more) says)

  -- it is ENDDATA
  pub read_ended : (form : Form) (line : List ℕ) {e : Entry} → IfSome t.channels_set (λ n. 1 ≤ n) → entry_of (facts_in t i) line ≡ Ok e
      → is_end e ≡ true → AreAll form (lines ++ line ∷ []) (Ok (final_reading form t))
  read_ended form line least says end = subst (λ r. AreAll form (lines ++ line ∷ []) (Ok r)) (state_reading form so_far.state least)
      (all_read form line (Ok so_far.placed) (λ more. rw (says, end) (ap Ok (append-nil so_far.placed)))
      (λ more. ap (counted (facts_in t i) more) says ∙ rw end refl))

  -- No line has ended the reading.
  pub read_open : (form : Form) → reads_lines desk_limits form lines ≡ Err (NoEndData i)
  read_open form = ap (reads_lines desk_limits form) (sym (append-nil lines)) ∙ ap (λ r. r >>= (λ all. Ok (reading_from form all)))
      (so_far.whole [])

  -- more lines are wanted than those, and where none is left one more than there are
  pub wanted_more : (more : List (List ℕ)) → length lines < lines_read (lines ++ more)
  wanted_more more = omega (arith, so_far.wanted more, count_some (facts_in t i) more)

  pub wanted_one : lines_read lines ≡ i
  wanted_one = ap lines_read (sym (append-nil lines)) ∙ omega (arith, so_far.wanted [], so_far.number, so_far.count)

-- A line that is too long.
long_test : (n : ℕ) → LINE_BYTES < n → nat_lt LINE_BYTES n ≡ true
long_test n h = grind (arith, nat_tests)

pub long_entry : (facts : Facts) (line : List ℕ) → LINE_BYTES < length line → entry_of facts line ≡ Err (LineTooLong facts.number)
long_entry facts line long = λ j. cond (long_test (length line) long j) (Err (LineTooLong facts.number))
    (entry_by_tokens facts line (tokens line))
