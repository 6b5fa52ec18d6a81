-- A pass over the lines of a show text, by a reader.
use Rattle.lx_reader.proofs.Imports.{◌≡◌, ℕ, ◌+◌, ◌<◌, ◌≤◌, true, false, List, [], ◌∷◌, ◌++◌, map, length, take, drop, Option, Some, None, Result, Ok}
use Rattle.lx_reader.proofs.Imports.{Err, refl, ap, ◌∙◌, sym, subst, inl, inr, arith, length-append, take-append_seam, map-append, length-map, IfSome}
use Rattle.lx_reader.proofs.Imports.{IsOkAnd, IsErrAnd, LINE_BYTES, INPUT_BYTES, Form, TextFault, LineTooLong, NoEndData, desk_limits, without_cr}
use Rattle.lx_reader.proofs.Imports.{lines_of, Entry, Ends, is_end, entry_of, reads_lines, lines_read, script_of, Lines, LinesBetween, NotTaken}
use Rattle.lx_reader.proofs.Imports.{HandedOut, unread, current_line, handed_none, handed_then, cut_off, too_long, ShowFault, Reader, first_state}
use Rattle.lx_reader.proofs.Imports.{state_after, final_reading, facts_of, state_of, CanGoOn, IsStep, Outcome, MeansShow, MeansFault, IsPastLimit}
use Rattle.lx_reader.proofs.Imports.{IsCutShort, IsLoaded, AnswerOf, TurnOf, ToldBySource, new_reader, Show}
use Rattle.std.proofs.Math.Seq.{drop-append_seam}
use Rattle.std.specs.Io.KnownBytes.{IsAtEnd}
use Rattle.lx_spec.specs.declared.Form.TheVariants.{Moves}
use Rattle.lx_spec.specs.CutInput.{CutOff, first_lines}
use Rattle.lx_lex.proofs.TakenLines.{next_too_long, all_texts, texts}
use Rattle.lx_reader.specs.declared.fault.ShowFault.TheVariants as faults
use Rattle.lx_reader.specs.declared.loaded.Loaded.{Loaded}
use Rattle.lx_reader.proofs.ReadLines.{long_entry, ReadSoFar, AreAll, are_read, read_none, read_more, read_refused, read_ended, read_open}
use Rattle.lx_reader.proofs.ReadLines.{wanted_more, wanted_one}
use Rattle.lx_reader.proofs.ReadingStates.{skipped_few, state_open}

-- A line that was handed out and given to the reader.
module _ {S : Type 0} {told : ToldBySource S} {l l' : Lines S} (r q : Reader) {raw : List ℕ} {i : ℕ} (handed : HandedOut told l l' (raw ∷ []))
    (number : i ≡ l.number + 1) where
  pub line_turn : {line : List ℕ} (result : Result (Unit {0}) ShowFault) → line ≡ without_cr raw
      → Outcome r q i result (entry_of (facts_of r i) line) → TurnOf told l l' r q result
  line_turn (Ok done) is took = (raw, handed, rw (sym number, sym is) took)
  line_turn (Err faults.Memory) is took = tt
  line_turn (Err faults.ReadFault) is took = absurd took
  line_turn (Err faults.InputTooLong) is took = absurd took
  line_turn (Err (faults.Text fault)) is took = inl (raw, handed, rw (sym number, sym is) took)

  -- A line that is too long.
  pub long_turn : LINE_BYTES < length (without_cr raw) → TurnOf told l l' r q (Err (faults.Text (LineTooLong i)))
  long_turn long = inl (
    raw,
    handed,
    long_entry (facts_of r (l.number + 1)) (without_cr raw) long ∙ ap (λ k. Err (LineTooLong k))
        (sym number),
  )

-- no line is a failed read
pub no_read_fault : {P : Type 0} (r q : Reader) (i : ℕ) (result : Result (Unit {0}) ShowFault) (x : Result Entry TextFault)
    → Outcome r q i result x → result ≡ Err faults.ReadFault → P
no_read_fault r q i result x took read = absurd (subst (λ v. Outcome r q i v x) read took)

-- what holds of each list of lines that begins with these holds of the text
text_with : {a b : Option (List ℕ)} {i j : ℕ} {raws : List (List ℕ)} (P : List (List ℕ) → Type 0) → LinesBetween a b i j raws
    → ((more : List (List ℕ)) → P (map without_cr raws ++ more)) → IfSome a (λ bytes. P (lines_of bytes))
text_with {a = None} P took all = tt
text_with {a = Some x} {b = None} P took all = absurd took.took
text_with {a = Some x} {b = Some y} {i = i} {j = j} {raws = raws} P took all = subst P (sym (texts (Some x) (Some y) i j raws took)) (all (lines_of y))

text_whole : {a b : Option (List ℕ)} {i j : ℕ} {raws : List (List ℕ)} (P : List (List ℕ) → Type 0) → LinesBetween a b i j raws
    → IsAtEnd b → P (map without_cr raws) → IfSome a (λ bytes. P (lines_of bytes))
text_whole {a = None} P took end all = tt
text_whole {a = Some x} {b = b} {i = i} {j = j} {raws = raws} P took end all = subst P (sym (all_texts (Some x) b i j raws took end)) all

-- the script are the lines behind those that are wanted
script_with : {a b : Option (List ℕ)} {i j : ℕ} {raws : List (List ℕ)} → LinesBetween a b i j raws
    → ((more : List (List ℕ)) → lines_read (map without_cr raws ++ more) ≡ length (map without_cr raws))
    → IfSome a (λ bytes. IfSome b (λ rest. script_of bytes ≡ lines_of rest))
script_with {a = None} took wanted = tt
script_with {a = Some x} {b = None} took wanted = tt
script_with {a = Some x} {b = Some y} {i = i} {j = j} {raws = raws} took wanted =
    ap (λ v. drop (lines_read v) v) (texts (Some x) (Some y) i j raws took)
    ∙ ap (λ n. drop n (map without_cr raws ++ lines_of y)) (wanted (lines_of y)) ∙ drop-append_seam (map without_cr raws) (lines_of y)

past_limit : (o : Option (List ℕ)) (taken n : ℕ)
    → IfSome o (λ bytes. reads_lines desk_limits Moves (take n (lines_of bytes)) ≡ Err (NoEndData (n + 1)))
    → IfSome o (λ bytes. n < lines_read (lines_of bytes)) → IfSome o (λ bytes. INPUT_BYTES < taken + length (first_lines (n + 1) bytes))
    → IfSome o (IsPastLimit taken)
past_limit None taken n open_text wanted long = tt
past_limit (Some bytes) taken n open_text wanted long = record { n = n; no_end = open_text; wanted = wanted; long = long }

cut_short : (o left : Option (List ℕ)) (taken : ℕ) {n k : ℕ} → n ≡ k → IfSome o (λ bytes. (cut : CutOff taken bytes left) × (cut.lines ≡ n))
    → IfSome o (λ bytes. k < lines_read (lines_of bytes)) → IfSome o (λ bytes. IsCutShort taken bytes left)
cut_short None left taken is cut wanted = tt
cut_short (Some bytes) left taken is cut wanted = record { cut = cut.0; wanted = omega (arith, is, cut.1, wanted) }

-- The pass over the lines that were handed out and taken up.
pub record Passage {S : Type 0} (told : ToldBySource S) (old l : Lines S) (r : Reader) : Type 0 where
  pub raws : List (List ℕ)
  pub handed : HandedOut told old l raws
  pub so_far : ReadSoFar (map without_cr raws) (l.number + 1) (state_of r)
  pub going : r.ended ≡ false

pub passage_none : {S : Type 0} (told : ToldBySource S) (l : Lines S) {r : Reader} {show : Show} → l.number ≡ 0 → l.going ≡ true
    → show ≡ first_state.show → r ≡ new_reader show → Passage told l l r
passage_none told l {r} first going shows is = record {
  raws = [];
  handed = handed_none told l going;
  so_far = subst (λ n. ReadSoFar [] (n + 1) (state_of r)) (sym first) (subst (ReadSoFar [] 1)
      (sym (ap state_of is ∙ ap (λ (s : Show). state_of (new_reader s)) shows)) read_none);
  going = ap (λ r. r.ended) is;
}

the_ok : {A E : Type 0} (P : A → Type 0) (x : Result A E) → IsOkAnd x P → (a : A) × (x ≡ Ok a) × P a
the_ok P (Ok a) is = (a, refl, is)
the_ok P (Err e) is = absurd is

-- ENDDATA adds nothing
end_adds : (i : ℕ) (r : Reader) (e : Entry) → is_end e ≡ true → state_after i e (state_of r) ≡ state_of r
end_adds i r e = elim e as (λ e. is_end e ≡ true → state_after i e (state_of r) ≡ state_of r) [ Ends ↦ λ is. refl | _ ↦ λ is. cc ]

module _ {S : Type 0} {told : ToldBySource S} {old l : Lines S} {r : Reader} (passage : Passage told old l r) where
  abbrev front : List (List ℕ)
  front = map without_cr passage.raws

  count : length front ≡ l.number
  count = omega (arith, passage.so_far.number, passage.so_far.count)

  pub passage_ready : CanGoOn r (l.number + 1)
  passage_ready = record {
    open_section = state_open passage.so_far.state;
    few = omega (arith, skipped_few passage.so_far.state, passage.so_far.number);
    going = passage.going;
  }

  module _ {l' : Lines S} {raw : List ℕ} (handed : HandedOut told l l' (raw ∷ [])) where
    whole : HandedOut told old l' (passage.raws ++ raw ∷ [])
    whole = handed_then told old l l' passage.raws (raw ∷ []) passage.handed handed

    texts_more : map without_cr (passage.raws ++ raw ∷ []) ≡ front ++ without_cr raw ∷ []
    texts_more = map-append without_cr passage.raws (raw ∷ [])

    more_read : {e : Entry} → entry_of (facts_of r (l.number + 1)) (without_cr raw) ≡ Ok e → is_end e ≡ false
        → ReadSoFar (map without_cr (passage.raws ++ raw ∷ [])) (l'.number + 1) (state_after (l.number + 1) e (state_of r))
    more_read says goes_on = rw (texts_more, handed.number) (read_more passage.so_far (without_cr raw) says goes_on)

    count_more : length (map without_cr (passage.raws ++ raw ∷ [])) ≡ length passage.raws + 1
    count_more = length-map (passage.raws ++ raw ∷ []) without_cr ∙ length-append passage.raws (raw ∷ [])

  -- more lines are wanted than those that were handed out
  more_wanted : IfSome (unread told old) (λ bytes. l.number < lines_read (lines_of bytes))
  more_wanted = text_with (λ v. l.number < lines_read v) passage.handed.took (λ more. omega (arith, wanted_more passage.so_far more, count))

  module _ (l' : Lines S) (form : Form) (q : Reader) where
    -- what the line says
    said : (turn : TurnOf told l l' r q (Ok tt)) → (e : Entry)
        × (entry_of (facts_of r (l.number + 1)) (without_cr turn.0) ≡ Ok e) × IsStep r q (l.number + 1) e
    said turn = the_ok (IsStep r q (l.number + 1)) (entry_of (facts_of r (l.number + 1)) (without_cr turn.0)) turn.2

    -- one more line
    pub passage_more : TurnOf told l l' r q (Ok tt) → q.ended ≡ false → Passage told old l' q
    passage_more turn going =
        let says = said turn in
        let took = says.2 in
        record {
          raws = passage.raws ++ turn.0 ∷ [];
          handed = whole turn.1;
          so_far = subst (ReadSoFar (map without_cr (passage.raws ++ turn.0 ∷ [])) (l'.number + 1)) (sym took.state)
              (more_read turn.1 says.1 (sym took.ended ∙ going));
          going = going;
        }

    -- the line was ENDDATA
    pub passage_loaded : (result : Result Loaded ShowFault) → TurnOf told l l' r q (Ok tt) → q.ended ≡ true → IsLoaded form q result
        → AnswerOf told old l' form result
    passage_loaded (Err fault) turn ended is = subst (λ f. AnswerOf told old l' form (Err f)) (sym is) tt
    passage_loaded (Ok loaded) turn ended is =
        let says = said turn in
        let took = says.2 in
        let end : is_end says.0 ≡ true = sym took.ended ∙ ended in
        let same : state_of q ≡ state_of r = took.state ∙ end_adds (l.number + 1) r says.0 end in
        let reading = final_reading form (state_of r) in
        let all : AreAll form (map without_cr (passage.raws ++ turn.0 ∷ [])) (Ok reading) = rw (texts_more turn.1)
        (read_ended passage.so_far form (without_cr turn.0) (subst (λ t. IfSome t.channels_set (λ n. 1 ≤ n)) same is.least) says.1 end) in
        let took_whole = (whole turn.1).took in
        record {
          means = subst (MeansShow told old l' form) (ap (final_reading form) (sym same) ∙ sym is.reading) (record {
            front = passage.raws;
            last = turn.0;
            handed = whole turn.1;
            lines = are_read all;
            text = text_with (λ v. reads_lines desk_limits form v ≡ Ok reading) took_whole all.reading;
            wanted = text_with (λ v. lines_read v ≡ length passage.raws + 1) took_whole (λ more. all.wanted more ∙ count_more turn.1);
            script = script_with took_whole all.wanted;
          });
          valid = is.valid;
        }

    -- The next line wasn't taken.
    next_cut : NotTaken told l l' → IfSome (unread told old) (λ bytes. IsCutShort old.taken bytes (told.left l'.source.now))
    next_cut not = cut_short (unread told old) (told.left l'.source.now) old.taken
        (omega (arith, count, length-map passage.raws without_cr)) (cut_off told old l l' passage.raws passage.handed.took not) more_wanted

    -- a fault ends the reading
    pub passage_fault : (fault : ShowFault) → TurnOf told l l' r q (Err fault) → AnswerOf told old l' form (Err fault)
    passage_fault (faults.Text fault) (inl line) =
        let all : AreAll form (map without_cr (passage.raws ++ line.0 ∷ [])) (Err fault) = rw (texts_more line.1)
        (read_refused passage.so_far form (without_cr line.0) line.2) in
        let took = (whole line.1).took in
        record {
          raws = passage.raws ++ line.0 ∷ [];
          unread_then = unread told l';
          taken_then = l'.taken;
          took = took;
          count = length passage.raws + 1;
          whole = inl (length-append passage.raws (line.0 ∷ []));
          lines = are_read all;
          text = text_with (λ v. reads_lines desk_limits form v ≡ Err fault) took all.reading;
          wanted = text_with (λ v. lines_read v ≡ length passage.raws + 1) took (λ more. all.wanted more ∙ count_more line.1);
        }
    passage_fault (faults.Text fault) (inr end) = subst (MeansFault told old form) (sym end.1) (record {
      raws = passage.raws;
      unread_then = unread told l;
      taken_then = l.taken;
      took = passage.handed.took;
      count = l.number + 1;
      whole = inr end.0;
      lines = read_open passage.so_far form;
      text = text_whole (λ v. reads_lines desk_limits form v ≡ Err (NoEndData (l.number + 1))) passage.handed.took end.0
          (read_open passage.so_far form);
      wanted = text_whole (λ v. lines_read v ≡ l.number + 1) passage.handed.took end.0 (wanted_one passage.so_far);
    })
    passage_fault faults.InputTooLong step =
        let first : (more : List (List ℕ)) → take l.number (front ++ more) ≡ front
        = λ more. subst (λ n. take n (front ++ more) ≡ front) count (take-append_seam front more) in (
          past_limit (unread told old) old.taken l.number
              (text_with (λ v. reads_lines desk_limits Moves (take l.number v) ≡ Err (NoEndData (l.number + 1))) passage.handed.took
              (λ more. ap (reads_lines desk_limits Moves) (first more) ∙ read_open passage.so_far Moves)) more_wanted
              (next_too_long (unread told old) (unread told l) (unread told l') old.taken l.taken l'.taken passage.raws (current_line l')
              (l.number + 1) passage.handed.took step (omega (arith, count, length-map passage.raws without_cr))),
          next_cut (too_long told l l' step),
        )
    passage_fault faults.ReadFault not = next_cut not
    passage_fault faults.Memory turn = tt

-- out of memory is no failed read
pub loaded_read : {P : Type 0} (form : Form) (q : Reader) (result : Result Loaded ShowFault) → IsLoaded form q result
    → result ≡ Err faults.ReadFault → P
loaded_read form q result is read = let memory = subst (IsLoaded form q) read is in cc

-- a fault that is handed on
pub handed_on : {S : Type 0} (told_in : ToldBySource S) (old l : Lines S) (form : Form) (result : Result Loaded ShowFault)
    (fault : ShowFault) → IsErrAnd result (λ told. told ≡ fault) → AnswerOf told_in old l form (Err fault)
    → AnswerOf told_in old l form result
handed_on told_in old l form (Ok loaded) fault is answer = absurd is
handed_on told_in old l form (Err other) fault is answer = subst (λ f. AnswerOf told_in old l form (Err f)) (sym is) answer
