-- What one line makes of the reader.
use Rattle.lx_reader.proofs.Imports.{◌≡◌, ℕ, ◌+◌, length, Bool, true, false, cond, List, [], ◌∷◌, map, Option, Some, None, Result, Ok, Err, refl, ap}
use Rattle.lx_reader.proofs.Imports.{◌∙◌, sym, subst, ◌||◌, ◌==◌, not, nat_lt, IfErr, OnOk, is_ok, is_some, list_any, IsOkAnd, IsErrAnd, CUES}
use Rattle.lx_reader.proofs.Imports.{entry_at, has_entry, TextFault, NoIdent, OutOfRange, PatchRow, read_time, read_whole, ◌>>=◌, Cue, Show, Section}
use Rattle.lx_reader.proofs.Imports.{NoRecord, InCue, Skipping, Entry, Skipped, Begins, Patches, times, number, delay_at, is_page_one, record_entry}
use Rattle.lx_reader.proofs.Imports.{if_few, entry_by_word, Reader, ShowFault, all_triples, next_times, record_number, facts_of, state_of, IsStep}
use Rattle.lx_reader.proofs.Imports.{Outcome, with_rows, placed_in, show_with, tokens, length-map, IsBetween, Move, Open, with_open}
use Rattle.lx_reader.specs.declared.reading.ShowPass.{ShowPass}
use Rattle.lx_spec.specs.declared.Bad.{Bad}
use Rattle.lx_spec.specs.declared.Word.TheVariants as words
use Rattle.lx_reader.specs.declared.fault.ShowFault.TheVariants as faults
use Rattle.lx_reader.specs.LineFaults.{IsFaultOf}

-- a reader with the open record put in
abbrev pub opened : Reader → Open → List Move → Reader
opened r o moves = record r { show = with_open o moves r.show }

-- a fault ends the reading
pub stops : (old new : Reader) (i : ℕ) (r : Result (Unit {0}) ShowFault) {entry : Result Entry TextFault} {fault : TextFault}
    → entry ≡ Err fault → IsErrAnd r (λ stop. stop ≡ faults.Text fault) → Outcome old new i r entry
stops old new i (Ok done) is stop = absurd stop
stops old new i (Err stop) {entry} is stopped = subst (λ s. Outcome old new i (Err s) entry) (sym stopped) is

-- the line says this, and the reader went on
took : {old new : Reader} {i : ℕ} {r : Result Entry TextFault} {entry : Entry} → r ≡ Ok entry → IsStep old new i entry
    → IsOkAnd r (IsStep old new i)
took {old} {new} {i} is up = subst (λ v. IsOkAnd v (IsStep old new i)) (sym is) up

-- the two times of a line
abbrev pub said_with : (ℕ → ℕ → Entry) → Result (ℕ × ℕ) TextFault → Result Entry TextFault
said_with entry (Ok t) = Ok (entry t.0 t.1)
said_with entry (Err fault) = Err fault

times_from : (i : ℕ) (entry : ℕ → ℕ → Entry) (t d : Result ℕ TextFault)
    → (t >>= (λ time. d >>= (λ delay. Ok (entry time delay))))
    ≡ said_with entry (t >>= (λ time. d >>= (λ delay. let both : ℕ × ℕ = (time, delay) in Ok both)))
times_from i entry (Ok time) (Ok delay) = refl
times_from i entry (Ok time) (Err fault) = refl
times_from i entry (Err fault) d = refl

times-next : (i : ℕ) (entry : ℕ → ℕ → Entry) (rest : List (List ℕ)) → times i entry rest ≡ said_with entry (next_times i rest)
times-next i entry [] = refl
times-next i entry (token ∷ rest) = times_from i entry (number i (read_time token)) (delay_at i rest)

pub times_are : (i : ℕ) (entry : ℕ → ℕ → Entry) (rest : List (List ℕ)) {r : Result (ℕ × ℕ) TextFault} → r ≡ next_times i rest
    → times i entry rest ≡ said_with entry r
times_are i entry rest is = times-next i entry rest ∙ ap (said_with entry) (sym is)

-- Rows of the patch.
patch_says : (old : Reader) (i : ℕ) (page : List ℕ) (rest : List (List ℕ)) → old.identified ≡ true → is_ok (read_whole 1 1 page) ≡ true
    → entry_by_word (facts_of old i) [] words.Patch (page ∷ rest) ≡ (all_triples i rest >>= (λ rows. Ok (Patches rows)))
patch_says old i page rest identified one =
    (λ j. cond (not (identified j)) (Err (NoIdent i))
    (cond (one j) (all_triples i rest >>= (λ rows. Ok (Patches rows))) (Ok (Skipped (Some NoRecord)))))

abbrev pub patched : Reader → Show → Reader
patched old show = record old { show = show; section = NoRecord; part = 1 }

rows_ok : (old : Reader) (show : Show) (i : ℕ) (r : Result (List PatchRow) TextFault) → old.ended ≡ false
    → IsOkAnd r (λ rows. show ≡ with_rows rows old.show) → IsOkAnd (r >>= (λ rows. Ok (Patches rows))) (IsStep old (patched old show) i)
rows_ok old show i (Err fault) going is = absurd is
rows_ok old show i (Ok rows) going is = record { state = λ j. record (state_of (patched old show)) { show = is j }; ended = going }

rows_stop : (stop : ShowFault) (r : Result (List PatchRow) TextFault) → IsFaultOf stop r → IsFaultOf stop (r >>= (λ rows. Ok (Patches rows)))
rows_stop (faults.Text fault) r is = ap (λ v. v >>= (λ rows. Ok (Patches rows))) is
rows_stop other r is = is

pub rows_took : (old : Reader) (show : Show) (i : ℕ) (page : List ℕ) (tokens rest : List (List ℕ)) (result : Result (Unit {0}) ShowFault)
    → tokens ≡ page ∷ rest → old.ended ≡ false → old.identified ≡ true → is_ok (read_whole 1 1 page) ≡ true
    → OnOk result (IsOkAnd (all_triples i rest) (λ rows. show ≡ with_rows rows old.show))
    → IfErr result (λ stop. IsFaultOf stop (all_triples i rest))
    → Outcome old (patched old show) i result (entry_by_word (facts_of old i) [] words.Patch tokens)
rows_took old show i page tokens rest result cut going identified one is stop =
    subst (Outcome old (patched old show) i result)
    (sym (ap (entry_by_word (facts_of old i) [] words.Patch) cut ∙ patch_says old i page rest identified one))
    (elim result as (λ v. OnOk v (IsOkAnd (all_triples i rest) (λ rows. show ≡ with_rows rows old.show))
    → IfErr v (λ stop. IsFaultOf stop (all_triples i rest))
    → Outcome old (patched old show) i v (all_triples i rest >>= (λ rows. Ok (Patches rows)))) [
      | Ok done ↦ λ is stop. rows_ok old show i (all_triples i rest) going is
      | Err fault ↦ λ is stop. rows_stop fault (all_triples i rest) stop
    ] is stop)

-- The first line of a cue.
abbrev pub record_said : (ℕ → Section) → Result (Option ℕ) TextFault → Result Entry TextFault
record_said section (Ok (Some n)) = Ok (Begins (section n))
record_said section (Ok None) = Ok (Skipped (Some Skipping))
record_said section (Err fault) = Err fault

record_from : (section : ℕ → Section) (r : Result ℕ TextFault) (one : Bool)
    → cond one (r >>= (λ n. Ok (Begins (section n)))) (Ok (Skipped (Some Skipping)))
    ≡ record_said section (cond one (r >>= (λ n. Ok (Some n))) (Ok None))
record_from section (Ok n) true = refl
record_from section (Err fault) true = refl
record_from section r false = refl

pub record-said : (i : ℕ) (section : ℕ → Section) (read : List ℕ → Result ℕ Bad) (rest : List (List ℕ))
    → record_entry i section read rest ≡ record_said section (record_number i read rest)
record-said i section read [] = refl
record-said i section read (token ∷ page) = record_from section (number i (read token)) (is_page_one page)

abbrev pub if_room : Reader → ℕ → Result Entry TextFault → Result Entry TextFault
if_room old i said = said >>= if_few (facts_of old i)

pub read_as : {o v : Option ℕ} {r : Result (Option ℕ) TextFault} → Ok o ≡ r → o ≡ v → Ok v ≡ r
read_as {r = r} numbered is = subst (λ (o : Option ℕ). Ok o ≡ r) is numbered

module _ {g : ShowPass} {i : ℕ} (between : IsBetween g i) where
  -- once IDENT was read; more is asked of a cue
  pub record_says : (more : Result Entry TextFault → Result Entry TextFault) (section : ℕ → Section) (read : List ℕ → Result ℕ Bad)
      (rest : List (List ℕ)) {r : Result (Option ℕ) TextFault} → r ≡ record_number i read rest
      → cond (not g.reader.identified) (Err (NoIdent i)) (more (record_entry i section read rest)) ≡ more (record_said section r)
  record_says more section read rest is =
      ap (λ b. cond (not b) (Err (NoIdent i)) (more (record_entry i section read rest))) between.identified
      ∙ ap more (record-said i section read rest ∙ ap (record_said section) (sym is))

  -- another page
  pub other_page : {skipped : Reader} {said : Result Entry TextFault} → said ≡ Ok (Skipped (Some Skipping))
      → skipped ≡ record g.reader {
        section = Skipping;
        part = 1;
        skipped = g.reader.skipped + 1;
        first_skipped = cond (g.reader.skipped == 0) i g.reader.first_skipped;
      }
      → IsOkAnd said (IsStep g.reader (opened skipped g.held g.moves) i)
  other_page {skipped} is skips =
      let new : opened skipped g.held g.moves ≡ skipped = ap (λ (o : Open). opened skipped o g.moves) between.none in
      took is (record { state = ap state_of (new ∙ skips); ended = ap (λ r. r.ended) (new ∙ skips) ∙ between.ready.going })

  -- the record begins
  pub begins : {new : Reader} {show : Show} {section : Section} {said : Result Entry TextFault} → said ≡ Ok (Begins section)
      → show ≡ show_with (placed_in (state_of g.reader) (Begins section)) g.reader.show
      → new ≡ record g.reader { show = show; section = section; part = 1 } → IsOkAnd said (IsStep g.reader new i)
  begins {section = section} is shows enters = took is (record {
    state = ap state_of enters ∙ (λ j. record (state_of g.reader) { show = shows j; section = section; part = 1 });
    ended = ap (λ r. r.ended) enters ∙ between.ready.going;
  })

-- the numbers of the cues
any_numbers : (n : ℕ) (cues : List Cue) → list_any (λ m. m == n) (map (λ cue. cue.number) cues) ≡ has_entry (λ cue. cue.number) n cues
any_numbers n [] = refl
any_numbers n (cue ∷ cues) = elim (cue.number == n) as
    (λ b. (b || list_any (λ m. m == n) (map (λ z. z.number) cues)) ≡ is_some (cond b (Some cue) (entry_at (λ z. z.number) n cues)))
    [ true ↦ refl | false ↦ any_numbers n cues ]

pub room_says : (old : Reader) (i n : ℕ) (room : Bool)
    → room ≡ (has_entry (λ cue. cue.number) n old.show.cues || nat_lt (length old.show.cues) CUES)
    → if_room old i (Ok (Begins (InCue n))) ≡ cond room (Ok (Begins (InCue n))) (Err (OutOfRange i))
room_says old i n room is =
    (λ j. cond (any_numbers n old.show.cues j || nat_lt (length-map old.show.cues (λ cue. cue.number) j) CUES) (Ok (Begins (InCue n)))
    (Err (OutOfRange i)))
    ∙ sym (ap (λ b. cond b (Ok (Begins (InCue n))) (Err (OutOfRange i))) is)
